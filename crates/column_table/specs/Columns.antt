-- A table in columns, and the rows of cells that it stands for. docs/MODEL.md, "Encoded run", tells it in prose.
use Rattle.std.specs.Prelude.{ℕ, ◌==◌, Bool, true, false, List, length, map, Option, Some, None, slice_get, slice_index_or, option_map, option_and_then}
use Rattle.std.specs.List.{range_with_len}
use Rattle.column_table.specs.Cells.{Cell, Plain, Sealed}
use Rattle.mq_base.specs.declared.table.Scheme.{Scheme}
use Rattle.mq_base.specs.declared.table.Scheme.TheVariants as scheme
use Rattle.mq_base.specs.declared.value.ValueType.{ValueType}
use Rattle.row_algebra.specs.Rows.{RowOf}
use Rattle.sealed_column.specs.declared.column.AnyColumn.{AnyColumn}
use Rattle.sealed_column.specs.declared.column.AnyColumn.TheVariants as column
use Rattle.sealed_column.specs.Cells.{picked}

-- what a column shows: the scheme that sealed it, where one did, the type of its values, and its cells
pub record Shown : Type 0 where
  pub scheme : Option Scheme
  pub ty : ValueType
  pub cells : List Cell

-- what a column shows in each state
abbrev pub shown : AnyColumn → Shown
shown (column.Clear c) = record { scheme = None; ty = c.ty; cells = map Plain c.cells }
shown (column.Rnd c) = record { scheme = Some scheme.Rnd; ty = c.ty; cells = map Sealed c.cells }
shown (column.Det c) = record { scheme = Some scheme.Det; ty = c.ty; cells = map Sealed c.cells }
shown (column.Ope c) = record { scheme = Some scheme.Ope; ty = c.ty; cells = map Sealed c.cells }

-- the columns of a table, each at its attribute's place
abbrev pub shown_columns : List (Option AnyColumn) → List (Option Shown)
shown_columns columns = map (option_map shown) columns

-- the column of an attribute, where there is one
abbrev pub column_at : List (Option Shown) → ℕ → Option Shown
column_at columns a = slice_index_or columns a None

-- the cell of an attribute at a row, and the count there
abbrev pub cell_at : List (Option Shown) → ℕ → ℕ → Option Cell
cell_at columns row a = option_and_then (λ (c : Shown). slice_get c.cells row) (column_at columns a)

abbrev pub count_at : Option (List ℕ) → ℕ → Option ℕ
count_at counts row = option_and_then (λ (c : List ℕ). slice_get c row) counts

-- the row at a place
abbrev pub row_at : List (Option Shown) → Option (List ℕ) → ℕ → RowOf Cell
row_at columns counts row = record { cell = cell_at columns row; count = count_at counts row }

-- so many rows
unfoldable pub rows_in : List (Option Shown) → Option (List ℕ) → ℕ → List (RowOf Cell)
rows_in columns counts rows = map (row_at columns counts) (range_with_len 0 rows)

-- whether a column, where there is one, has a cell for each row, and whether counts, where they are told, have a number for each
abbrev pub has_rows : ℕ → Option Shown → Bool
has_rows rows None = true
has_rows rows (Some c) = length c.cells == rows

abbrev pub counts_have : ℕ → Option (List ℕ) → Bool
counts_have rows None = true
counts_have rows (Some counts) = length counts == rows

-- a column at these rows
abbrev pub at_rows : List ℕ → Shown → Shown
at_rows rows c = record { scheme = c.scheme; ty = c.ty; cells = picked c.cells rows }

-- columns at these rows
abbrev pub columns_at : List ℕ → List (Option Shown) → List (Option Shown)
columns_at rows columns = map (option_map (at_rows rows)) columns

-- whether a column is sealed
abbrev pub is_sealed : Option Shown → Bool
is_sealed None = false
is_sealed (Some c) = is_some_scheme c.scheme
  where
    is_some_scheme : Option Scheme → Bool
    is_some_scheme None = false
    is_some_scheme (Some s) = true
