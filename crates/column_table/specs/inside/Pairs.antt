-- Which rows of two tables a product and a join put beside each other. docs/MODEL.md, "Encoded run", tells it in prose.
use Rattle.std.specs.Prelude.{◌≡◌, ℕ, ◌+◌, ◌<◌, Bool, not, ◌&&◌, List, [], length, ◌∷◌, ◌++◌, map, flat_map, is_some, is_none, option_map, if◌then◌else◌}
use Rattle.std.specs.List.{list_any, range_with_len}
use Rattle.column_table.specs.declared.cells.CellSlice.{CellSlice}
use Rattle.column_table.specs.declared.cells.CellSlice.TheVariants as lent
use Rattle.column_table.specs.declared.table.Table.{Table}
use Rattle.column_table.specs.Cells.{Cell, Plain, Sealed}
use Rattle.column_table.specs.Columns.{at_rows}
use Rattle.column_table.specs.Tables.{column_in, row_of, rows_of}
use Rattle.row_algebra.specs.Rows.{RowOf, merge}
use Rattle.sealed_column.specs.declared.rows.Pair.{Pair}
use Rattle.sealed_column.specs.Rows.{paired}

-- the cells that are lent
abbrev pub lent_cells : CellSlice → List Cell
lent_cells (lent.Plain values) = map Plain values.now
lent_cells (lent.Sealed cells) = map Sealed cells.now

-- the rows whose cell passes a test, where the first cell of the list stands in this row
abbrev pub rows_where : {C : Type 0} → (C → Bool) → ℕ → List C → List ℕ
rows_where test row [] = []
rows_where test row (c ∷ rest) = (if test c then row ∷ [] else []) ++ rows_where test (row + 1) rest

-- each row of the left with each row of the right whose cells pass a test together: by ascending left rows, and for each by ascending
-- right ones
abbrev pub pairs_by : {C : Type 0} → (C → C → Bool) → ℕ → List C → List C → List Pair
pairs_by test row [] right = []
pairs_by test row (c ∷ rest) right = paired row (rows_where (test c) 0 right) ++ pairs_by test (row + 1) rest right

-- each of so many rows with each of so many others
unfoldable pub all_pairs : ℕ → ℕ → List Pair
all_pairs rows others = flat_map (λ row. paired row (range_with_len 0 others)) (range_with_len 0 rows)

-- a row of the left beside one of the right
abbrev pub pair_row : Table → Table → Pair → RowOf Cell
pair_row left right pair = merge (row_of left pair.left) (row_of right pair.right)

-- two rows beside each other
abbrev pub merged : RowOf Cell × RowOf Cell → RowOf Cell
merged rows = merge rows.0 rows.1

-- a pair is of a row of the left and a row of the right
pub record IsPairOf (left right : Table) (pair : Pair) : Type 0 where
  pub on_left : pair.left < left.rows
  pub on_right : pair.right < right.rows

-- a table has the rows of another at these places
pub record AreTaken (table : Table) (rows : List ℕ) (taken : Table) : Type 0 where
  pub stand : rows_of taken ≡ map (row_of table) rows
  pub columns : (a : ℕ) → column_in taken a ≡ option_map (at_rows rows) (column_in table a)
  pub counts : is_some taken.counts ≡ is_some table.counts
  pub number : taken.rows ≡ length rows

-- whether a table has no column and no counts
abbrev pub is_bare : Table → Bool
is_bare table = not (list_any is_some table.columns) && is_none table.counts
