use Rattle.sql_reader.proofs.TokenLaws.{next-left}
use Rattle.sql_reader.proofs.terminals.next.Goals as goal

pub returns : goal.returns
returns c = next-left c.args.tokens.now c.args.at c.get.result c.get.ensures.lookup.0 c.get.ensures.lookup.1
