-- The selected values of a row. docs/FORMATS.md, "Query", tells them in prose.
use Rattle.std.specs.Prelude.{ℕ, List, filter_map, Option, option_map}
use Rattle.mq_base.specs.declared.query.Item.{Item}
use Rattle.mq_base.specs.declared.query.Item.TheVariants as item
use Rattle.row_algebra.specs.Rows.{RowOf}

-- the value of an item in a row: the attribute's cell, or the count as a value
abbrev pub item_of : {C : Type 0} → (ℕ → C) → RowOf C → Item → Option C
item_of number r (item.Attr a) = r.cell a.0
item_of number r item.Count = option_map number r.count

-- the values of the select list, in its order
abbrev pub selected : {C : Type 0} → (ℕ → C) → List Item → RowOf C → List C
selected number items r = filter_map (item_of number r) items
