use Rattle.sql_reader.proofs.OutcomeLaws.{reads-right, read_back, reads_once}
use Rattle.sql_reader.proofs.law.grammar_law.Goals as goal

pub returns-clause-right : goal.returns-clause-right
returns-clause-right c = reads-right

pub returns-clause-each : goal.returns-clause-each
returns-clause-each c = read_back

pub returns-clause-once : goal.returns-clause-once
returns-clause-once c = reads_once
