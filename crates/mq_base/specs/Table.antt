-- The content of a table as rows, and the form that it has. docs/FORMATS.md, "Table file", says the limits.
use Rattle.std.specs.Prelude.{◌≡◌, ℕ, zero, suc, ◌≤◌, List, [], ◌∷◌, length, filter_map, slice_get, All}
use Rattle.std.specs.List.{AllZip}
use Rattle.mq_base.specs.declared.value.Value.{Value}
use Rattle.mq_base.specs.declared.schema.AttrInfo.{AttrInfo}
use Rattle.mq_base.specs.declared.schema.Schema.{Schema}
use Rattle.mq_base.specs.declared.table.PlainTable.{PlainTable}
use Rattle.mq_base.specs.Value.{IsCell}
use Rattle.mq_base.specs.Schema.{columns_of}

-- the row at a place: the value of each column there
abbrev pub row_at : List (List Value) → ℕ → List Value
row_at columns row = filter_map (λ column. slice_get column row) columns

-- n rows from a place on
abbrev pub rows_from : List (List Value) → ℕ → ℕ → List (List Value)
rows_from columns row zero = []
rows_from columns row (suc n) = row_at columns row ∷ rows_from columns (suc row) n

-- the rows of a table, in the order of its file
abbrev pub rows_of : PlainTable → List (List Value)
rows_of table = rows_from table.columns 0 table.rows

-- a column of this type with a value for each row
pub record IsColumn (rows : ℕ) (info : AttrInfo) (column : List Value) : Type 0 where
  pub filled : length column ≡ rows
  pub cells : All (IsCell info.ty) column

-- the form of a table's content: at most 100,000 rows, and a column for each of the table's, of its type
pub record HasForm (schema : Schema) (table : PlainTable) : Type 0 where
  pub few_rows : table.rows ≤ 100000
  pub columns : AllZip (IsColumn table.rows) (columns_of schema table.table.0) table.columns
