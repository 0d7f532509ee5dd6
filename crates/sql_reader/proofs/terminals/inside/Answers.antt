use Rattle.sql_reader.proofs.TokenLaws.{first-cut, last-cut}
use Rattle.sql_reader.proofs.terminals.inside.Goals as goal

pub range-requires-clause-start_boundary : goal.range-requires-clause-start_boundary
range-requires-clause-start_boundary c = λ _. first-cut c.args.text.now c.requires c.utf8.text

pub range-requires-clause-end_boundary : goal.range-requires-clause-end_boundary
range-requires-clause-end_boundary c = last-cut c.args.text.now c.requires
