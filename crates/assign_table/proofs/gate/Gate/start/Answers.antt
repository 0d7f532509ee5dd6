use Rattle.assign_table.proofs.ArriveLaws.{start_low}
use Rattle.assign_table.proofs.gate.Gate.start.Goals as goal

pub returns-clause-inside : goal.returns-clause-inside
returns-clause-inside c = start_low c.args.self c.requires.gate c.args.node c.requires.before
