-- Each fault of a table's file by itself, and the first of them. docs/FORMATS.md, "Table file", gives their order.
use Rattle.std.specs.Prelude.{ℕ, suc, ◌==◌, List, [], ◌∷◌, Option, Some, None, Bool, map, length, nat_lt, nat_eq, is_some, slice_index_or, if◌then◌else◌}
use Rattle.std.specs.Option.{option_or}
use Rattle.std.specs.Cmp.Lexicographic.{pointwise}
use Rattle.base_laws.specs.Firsts.{first_at}
use Rattle.mq_base.specs.declared.schema.AttrInfo.{AttrInfo}
use Rattle.mq_base.specs.declared.value.ValueType.{ValueType}
use Rattle.mq_base.specs.declared.value.ValueType.TheVariants as type
use Rattle.mq_base.specs.declared.refusal.Refusal.{Refusal}
use Rattle.word_forms.specs.Integers.{integer_of}
use Rattle.table_reader.specs.Codes.{bad_header, bad_row, bad_int, text_too_long, too_many_rows}
use Rattle.table_reader.specs.Records.{Fields}

-- the names of columns, in their order
abbrev pub names_of : List AttrInfo → List (List ℕ)
names_of columns = map (λ (column : AttrInfo). column.name) columns

-- the types of columns, in their order
abbrev pub types_of : List AttrInfo → List ValueType
types_of columns = map (λ (column : AttrInfo). column.ty) columns

-- whether a record lists exactly these names, in this order
abbrev pub is_header : List (List ℕ) → Fields → Bool
is_header names fields = pointwise (pointwise nat_eq) names fields

-- the first record does not list the names of the columns; also where there is no record
abbrev pub header_fault : List (List ℕ) → List Fields → Option Refusal
header_fault names [] = Some bad_header
header_fault names (header ∷ rows) = if is_header names header then None else Some bad_header

-- the rows, which stand under the header
abbrev pub rows_under : List Fields → List Fields
rows_under [] = []
rows_under (header ∷ rows) = rows

-- row 100,001 is one too many
abbrev pub count_fault : ℕ → Option Refusal
count_fault row = if nat_lt 100000 row then Some too_many_rows else None

-- a row has another number of fields than the table has columns
abbrev pub length_fault : List ValueType → ℕ → Fields → Option Refusal
length_fault types row fields = if length fields == length types then None else Some (bad_row row)

-- an INT field spells no number within 64 bits; a TEXT field has more than 120 bytes
abbrev pub field_fault : ValueType → ℕ → ℕ → List ℕ → Option Refusal
field_fault type.Int row col field = if is_some (integer_of field) then None else Some (bad_int row col)
field_fault type.Text row col field = if nat_lt 120 (length field) then Some (text_too_long row col) else None

-- the type of the column at a place; it is asked only where there is one
abbrev pub type_at : List ValueType → ℕ → ValueType
type_at types col = slice_index_or types col type.Int

-- the field of a row at a place; it is asked only where there is one
abbrev pub field_in : Fields → ℕ → List ℕ
field_in fields col = slice_index_or fields col []

-- the fault of the field at a place
abbrev pub cell_fault : List ValueType → ℕ → Fields → ℕ → Option Refusal
cell_fault types row fields col = field_fault (type_at types col) row col (field_in fields col)

-- the first fault of a row within the limit: its length, then its fields from the left
abbrev pub record_fault : List ValueType → ℕ → Fields → Option Refusal
record_fault types row fields =
    option_or (length_fault types row fields) (first_at (cell_fault types row fields) 0 (length types))

-- the first fault of a row: its number, before anything of it is looked at
abbrev pub row_fault : List ValueType → ℕ → Fields → Option Refusal
row_fault types row fields = option_or (count_fault row) (record_fault types row fields)

-- the first fault of rows, of which the first has this number
abbrev pub rows_fault : List ValueType → ℕ → List Fields → Option Refusal
rows_fault types row [] = None
rows_fault types row (fields ∷ rows) = option_or (row_fault types row fields) (rows_fault types (suc row) rows)

-- the first fault of a table's records: that of the header, then that of the rows, counted from 1
abbrev pub table_fault : List AttrInfo → List Fields → Option Refusal
table_fault columns records =
    option_or (header_fault (names_of columns) records) (rows_fault (types_of columns) 1 (rows_under records))
