use Rattle.std.proofs.Common.{subst, sym}
use Rattle.assign_table.specs.inside.Neighbours.{AreNear}
use Rattle.assign_table.proofs.QueueLaws.{is_placed}
use Rattle.assign_table.proofs.table.Table.offer.Goals as goal

pub returns-in-Some-clause-offered : goal.returns-in-Some-clause-offered
returns-in-Some-clause-offered c = c.offer_at.ensures.offered c.args.state.now (sym c.in-Some.ensures.index)

pub offer_at-requires-clause-near : goal.offer_at-requires-clause-near
offer_at-requires-clause-near c =
    let cells = c.args.self.now.cells.entries in
    subst (λ st. AreNear cells st c.args.near.0 c.args.self.now.front)
    (sym (is_placed cells c.args.state.now c.in-Some.place (sym c.in-Some.ensures.index)).state) c.requires.near
