-- The names of what a query selects. docs/FORMATS.md, "Report", tells where they stand.
use Rattle.std.specs.Prelude.{ℕ, List, map, codes}
use Rattle.mq_base.specs.declared.query.Item.{Item}
use Rattle.mq_base.specs.declared.query.Item.TheVariants as item
use Rattle.mq_base.specs.declared.schema.Schema.{Schema}
use Rattle.policy_base.specs.Names.{attribute_name}

-- the name of a selected item: that of its attribute, also under a function; `count` for COUNT(*)
abbrev pub item_name : Schema → Item → List ℕ
item_name schema (item.Attr a) = attribute_name schema a
item_name schema item.Count = codes "count"

-- the names of selected items, in their order
abbrev pub item_names : Schema → List Item → List (List ℕ)
item_names schema items = map (item_name schema) items
