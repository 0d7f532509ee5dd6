-- A table in columns: the rows that it stands for, the column of an attribute, and how many rows it has at most. docs/MODEL.md, "Encoded
-- run", tells it in prose.
use Rattle.std.specs.Prelude.{ℕ, ◌-◌, ◌^◌, List, Option}
use Rattle.column_table.specs.declared.table.Table.{Table}
use Rattle.column_table.specs.Cells.{Cell}
use Rattle.column_table.specs.Columns.{Shown, column_at, row_at, rows_in, shown_columns}
use Rattle.row_algebra.specs.Rows.{RowOf}

-- the rows of a table
abbrev pub rows_of : Table → List (RowOf Cell)
rows_of table = rows_in (shown_columns table.columns) table.counts table.rows

-- the row of a table at a place
abbrev pub row_of : Table → ℕ → RowOf Cell
row_of table row = row_at (shown_columns table.columns) table.counts row

-- the column of an attribute of a table, where there is one
abbrev pub column_in : Table → ℕ → Option Shown
column_in table a = column_at (shown_columns table.columns) a

-- the most rows that a table has
abbrev pub most_rows : ℕ
most_rows = 2 ^ 48 - 1
