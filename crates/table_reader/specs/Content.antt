-- The values that rows without a fault give, column by column, which `read_table` answers. docs/FORMATS.md, "Table file",
-- tells it in prose.
use Rattle.std.specs.Prelude.{ℕ, suc, List, [], ◌∷◌, map, length, pos, unwrap_or}
use Rattle.mq_base.specs.declared.value.Value.{Value}
use Rattle.mq_base.specs.declared.value.Value.TheVariants as value
use Rattle.mq_base.specs.declared.value.ValueType.{ValueType}
use Rattle.mq_base.specs.declared.value.ValueType.TheVariants as type
use Rattle.mq_base.specs.declared.table.PlainTable.{PlainTable}
use Rattle.word_forms.specs.Integers.{integer_of}
use Rattle.table_reader.specs.Records.{Fields}
use Rattle.table_reader.specs.Faults.{field_in}

-- the value of a field that has no fault: the number that an INT field spells, the bytes of a TEXT field
abbrev pub cell_value : ValueType → List ℕ → Value
cell_value type.Int field = value.Int (unwrap_or (integer_of field) (pos 0))
cell_value type.Text field = value.Text field

-- the column at a place: the value of each row's field there, in the order of the rows
abbrev pub column_of : ValueType → ℕ → List Fields → List Value
column_of ty col rows = map (λ fields. cell_value ty (field_in fields col)) rows

-- the columns of these types, from a place on
abbrev pub columns_from : List ValueType → ℕ → List Fields → List (List Value)
columns_from [] col rows = []
columns_from (ty ∷ types) col rows = column_of ty col rows ∷ columns_from types (suc col) rows

-- the content of a table with columns of these types: the number of its rows, and its columns
abbrev pub content_of : ℕ → List ValueType → List Fields → PlainTable
content_of t types rows = record { table = record { 0 = t }; rows = length rows; columns = columns_from types 0 rows }
