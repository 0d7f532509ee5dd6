use Rattle.std.proofs.Common.{◌≡◌}
use Rattle.toml.specs.View.{members_view}
use Rattle.toml_tree.proofs.FormLaws.{after}
use Rattle.price_reader.specs.Shape.{members_as}
use Rattle.price_reader.proofs.shape.read_entries.Given as goal

abbrev pub invariant-loop-key : goal.invariant-loop-key
invariant-loop-key l =
    members_as (members_view l.table.entries) ≡ after l.entries (members_as (members_view l.key-iterator))
