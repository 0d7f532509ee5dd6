-- The values that a table shows to who reads it, row by row. Only the calls of a run speak of these.
use Rattle.std.specs.Prelude.{ℕ, List, filter_map, Option, Some, None, option_map, option_and_then, slice_get}
use Rattle.column_table.specs.Cells.{Cell, Plain, Sealed}
use Rattle.column_table.specs.Columns.{Shown, count_at}
use Rattle.mq_base.specs.declared.query.Item.{Item}
use Rattle.mq_base.specs.declared.query.Item.TheVariants as item
use Rattle.mq_base.specs.declared.value.Value.{Value}
use Rattle.provider_engine.specs.declared.held.Held.{Held}
use Rattle.provider_engine.specs.Held.{column_of, counts_of}
use Rattle.row_algebra.specs.Rows.{RowOf}
use Rattle.row_algebra.specs.Values.{value_count}

-- the value of a plain cell
abbrev pub plain_value : Cell → Option Value
plain_value (Plain v) = Some v
plain_value (Sealed c) = None

-- the value of an item in a row of cells, where it is plain, and the values of the select list
abbrev pub plain_item : RowOf Cell → Item → Option Value
plain_item r (item.Attr a) = option_and_then plain_value (r.cell a.0)
plain_item r item.Count = option_map value_count r.count

abbrev pub plain_items : List Item → RowOf Cell → List Value
plain_items items r = filter_map (plain_item r) items

-- the row of a table at a place
abbrev pub row_of : Held → ℕ → RowOf Cell
row_of held row = record {
  cell = λ a. option_and_then (λ (c : Shown). slice_get c.cells row) (column_of held a);
  count = count_at (counts_of held) row;
}
