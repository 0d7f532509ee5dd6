-- A place past the end of a table reads as its default.
use Rattle.std.proofs.lemmas.Option.{get_or_from_slice_get}
use Rattle.base_laws.proofs.PlaceLaws.{read_none}

pub ruleset reads = (read_none, get_or_from_slice_get)
