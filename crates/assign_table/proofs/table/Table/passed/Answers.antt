use Rattle.std.proofs.Common.{arith}
use Rattle.assign_table.proofs.NearLaws.{near-read}
use Rattle.assign_table.proofs.table.Table.passed.Goals as goal

pub returns-clause-near : goal.returns-clause-near
returns-clause-near c =
    near-read c.args.self.now.cells.entries c.args.self.now.near.items c.args.self.now.front c.args.settled.label c.args.place
    c.args.settled.state c.index.result.now c.args.self.now.each c.requires.place c.index.ensures c.requires.state
    (omega (arith, c.if-settled-self.false)) c.args.self.now.listed
