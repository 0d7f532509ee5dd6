-- The laws that reading bytes as a document needs, as one list.
use Rattle.std.proofs.lemmas.Str.{is_utf8-from_IsUtf8, IsUtf8-from_is_utf8}
use Rattle.toml.proofs.Views.{view-Table}

pub ruleset trees = (is_utf8-from_IsUtf8, IsUtf8-from_is_utf8, view-Table)
