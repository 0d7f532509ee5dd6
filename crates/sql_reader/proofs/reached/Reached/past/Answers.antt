use Rattle.sql_lexer.specs.Lexing.{lexeme}
use Rattle.sql_reader.proofs.TokenLaws.{keeps_wide}
use Rattle.sql_reader.proofs.reached.Reached.past.Goals as goal

pub returns-clause-wide : goal.returns-clause-wide
returns-clause-wide c = rw c.first_of.ensures (keeps_wide c.args.self.wide (lexeme c.args.token.now) c.args.wide c.requires.known)
