-- The content of a table as rows. docs/FORMATS.md, "Table file", tells it in prose.
use Rattle.std.specs.Prelude.{◌≡◌, ℕ, ◌==◌, Bool, List, [], map, filter, find, length, zip, Option, Some, None, IsSomeAnd, slice_get, option_map, option_and_then}
use Rattle.std.specs.List.{range_with_len, AllByRecursion}
use Rattle.std.specs.Option.{option_map_or}
use Rattle.mq_base.specs.declared.ids.TableId.{TableId}
use Rattle.mq_base.specs.declared.schema.AttrInfo.{AttrInfo}
use Rattle.mq_base.specs.declared.schema.Schema.{Schema}
use Rattle.mq_base.specs.declared.table.PlainTable.{PlainTable}
use Rattle.mq_base.specs.declared.value.Value.{Value}
use Rattle.mq_base.specs.Nodes.{is_of, is_of_some}
use Rattle.mq_base.specs.Value.{IsCell}
use Rattle.row_algebra.specs.Rows.{RowOf, IsOf}

-- the rows of each table, by the table's id
abbrev pub Contents : Type 0
Contents = ℕ → List (RowOf Value)

-- whether an attribute is one of a table, and one of some of these
abbrev pub owns : Schema → ℕ → ℕ → Bool
owns schema t a = is_of schema t (record { 0 = a })

abbrev pub some_owns : Schema → List TableId → ℕ → Bool
some_owns schema tables a = is_of_some schema tables (record { 0 = a })

-- the rows of each table have cells of its own attributes alone
abbrev pub HaveOwnCells : {C : Type 0} → Schema → (ℕ → List (RowOf C)) → Type 0
HaveOwnCells schema rows = (t : ℕ) → AllByRecursion (IsOf (owns schema t)) (rows t)

-- the row has a cell of its type for each attribute of a table
abbrev pub HasCells : Schema → ℕ → RowOf Value → Type 0
HasCells schema t r = (a : ℕ) (info : AttrInfo) → slice_get schema.attrs a ≡ Some info → info.table.0 ≡ t
    → IsSomeAnd (r.cell a) (IsCell info.ty)

-- the attributes of a table, in the order of its columns
abbrev pub attributes_of : Schema → ℕ → List ℕ
attributes_of schema t = filter (owns schema t) (range_with_len 0 (length schema.attrs))

-- the column of an attribute, where the table has it: the one beside the attribute
abbrev pub column_of : Schema → PlainTable → ℕ → Option (List Value)
column_of schema table a =
    option_map (λ p. p.1) (find (λ p. p.0 == a) (zip (attributes_of schema table.table.0) table.columns))

-- the row at a place: a cell for each of the table's attributes, and no count
abbrev pub row_at : Schema → PlainTable → ℕ → RowOf Value
row_at schema table place = record {
  cell = λ a. option_and_then (λ column. slice_get column place) (column_of schema table a);
  count = None;
}

-- the rows of a table, in the order of its file
abbrev pub table_rows : Schema → PlainTable → List (RowOf Value)
table_rows schema table = map (row_at schema table) (range_with_len 0 table.rows)

-- the contents that tables give: the rows of each, and none of a table that is not among them
unfoldable pub contents_of : Schema → List PlainTable → Contents
contents_of schema tables t = option_map_or (table_rows schema) (find (λ table. table.table.0 == t) tables) []

-- the rows of every table of a schema have the form of a content: their own cells alone, each of them, and no count
pub record HaveForm (schema : Schema) (contents : Contents) : Type 0 where
  pub own : HaveOwnCells schema contents
  pub cells : (t : ℕ) → AllByRecursion (HasCells schema t) (contents t)
  pub counts : (t : ℕ) → AllByRecursion (λ r. r.count ≡ None) (contents t)
