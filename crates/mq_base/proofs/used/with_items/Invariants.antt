use Rattle.std.proofs.Common.{◌≡◌, drop}
use Rattle.std.specs.Prelude.{filter_map}
use Rattle.base_laws.specs.Sets.{with_members}
use Rattle.mq_base.specs.Nodes.{item_attribute}
use Rattle.mq_base.proofs.used.with_items.Given as goal

abbrev pub invariant-loop-item : goal.invariant-loop-item
invariant-loop-item l =
    with_members l.fn.from.0 (filter_map item_attribute l.items)
    ≡ with_members l.set.0 (filter_map item_attribute (drop l.item-index l.items))
