use Rattle.sql_reader.proofs.TokenLaws.{next-whole}
use Rattle.sql_reader.proofs.terminals.literal.Goals as goal

pub literal_in-requires : goal.literal_in-requires
literal_in-requires c = next-whole c.args.tokens.now c.args.from.at _ _ c.requires c.in-Some.ensures
