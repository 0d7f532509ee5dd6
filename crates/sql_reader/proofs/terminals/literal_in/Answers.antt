use Rattle.std.proofs.Common.{sym}
use Rattle.sql_reader.proofs.TokenLaws.{text-marked}
use Rattle.sql_reader.proofs.terminals.literal_in.Goals as goal

pub inside-requires : goal.inside-requires
inside-requires c = text-marked _ _ c.requires (sym c.in-Text.ensures)
