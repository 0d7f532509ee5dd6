use Rattle.std.proofs.Common.{◌≡◌, drop}
use Rattle.toml.specs.View.{items_view}
use Rattle.toml_tree.specs.Form.{items_as}
use Rattle.toml_tree.proofs.FormLaws.{after}
use Rattle.toml_tree.proofs.form.SeqFromValue.read.Given as goal

abbrev pub invariant-loop-item : goal.invariant-loop-item
invariant-loop-item g l =
    items_as g.T.FromValue.from_data (items_view l.item-items)
    ≡ after l.list.items (items_as g.T.FromValue.from_data (items_view (drop l.item-index l.item-items)))
