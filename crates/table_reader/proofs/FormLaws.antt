-- Rows without a fault give a table of the right form.
use Rattle.std.proofs.Common.{sym, ◌≡◌, ℕ, suc, ◌+◌, ◌<◌, ◌≤◌, List, [], ◌∷◌, Option, Some, None, Bool, true, false, length, refl, arith, nat_lt}
use Rattle.std.specs.Prelude.{All, ℤ, pos, is_some, unwrap_or, if◌then◌else◌}
use Rattle.std.specs.List.{AllZip}
use Rattle.std.specs.Option.{option_and_then}
use Rattle.std.proofs.lemmas.Bool.{ltb-false}
use Rattle.std.proofs.lemmas.List.{length-map}
use Rattle.std.proofs.lemmas.List.Elements.{All-cons}
use Rattle.base_laws.specs.Firsts.{first_at}
use Rattle.base_laws.specs.Ranges.{fits_64_bits}
use Rattle.base_laws.proofs.FirstLaws.{first_at-none, none_left}
use Rattle.mq_base.specs.declared.schema.AttrInfo.{AttrInfo}
use Rattle.mq_base.specs.declared.schema.Schema.{Schema}
use Rattle.mq_base.specs.declared.value.ValueType.{ValueType}
use Rattle.mq_base.specs.declared.value.ValueType.TheVariants as type
use Rattle.mq_base.specs.declared.value.Value.TheVariants as value
use Rattle.mq_base.specs.Schema.{columns_of}
use Rattle.mq_base.specs.Table.{HasForm, IsColumn}
use Rattle.mq_base.specs.Value.{IsCell}
use Rattle.table_reader.specs.Codes.{bad_int, text_too_long, too_many_rows}
use Rattle.table_reader.specs.Content.{cell_value, column_of, columns_from, content_of}
use Rattle.table_reader.specs.Faults.{cell_fault, count_fault, field_fault, field_in, length_fault, record_fault, row_fault, rows_fault, type_at, types_of}
use Rattle.word_forms.specs.Integers.{int_of, integer_of, within_64_bits}
use Rattle.table_reader.specs.Records.{Fields}

-- a test that finds a fault where it holds does not hold where none is found
not_held : {F : Type 0} (test : Bool) (fault : F) → (if test then Some fault else None) ≡ None → test ≡ false
not_held true fault none = cc
not_held false fault none = refl

held : {F : Type 0} (test : Bool) (fault : F) → (if test then None else Some fault) ≡ None → test ≡ true
held true fault none = refl
held false fault none = cc

number_fits : (z : ℤ) → is_some (within_64_bits z) ≡ true → IsCell type.Int (value.Int z)
number_fits z some = by (fits_64_bits z) refl
  where
    by : (fits : Bool) → fits_64_bits z ≡ fits → fits ≡ true
    by true fits = refl
    by false fits = cc (rw fits at some)

kept_fits : (y z : ℤ) → within_64_bits y ≡ Some z → is_some (within_64_bits z) ≡ true
kept_fits y z kept = by (fits_64_bits y) refl
  where
    by : (fits : Bool) → fits_64_bits y ≡ fits → is_some (within_64_bits z) ≡ true
    by true fits = let same : y ≡ z = cc (rw fits at kept) in rw (sym same, fits) refl
    by false fits = cc (rw fits at kept)

found_fits : (number : Option ℤ) (z : ℤ) → option_and_then within_64_bits number ≡ Some z → is_some (within_64_bits z) ≡ true
found_fits None z found = cc
found_fits (Some y) z found = kept_fits y z found

number_is_cell : (field : List ℕ) (number : Option ℤ) → integer_of field ≡ number → is_some number ≡ true
    → IsCell type.Int (value.Int (unwrap_or number (pos 0)))
number_is_cell field None is some = cc
number_is_cell field (Some z) is some = number_fits z (found_fits (int_of field) z is)

-- the value of a field without a fault is one that a cell may hold
pub field_is_cell : (ty : ValueType) (row col : ℕ) (field : List ℕ) → field_fault ty row col field ≡ None → IsCell ty (cell_value ty field)
field_is_cell type.Int row col field passes = number_is_cell field (integer_of field) refl (held _ (bad_int row col) passes)
field_is_cell type.Text row col field passes = ltb-false 120 (length field) (not_held (nat_lt 120 (length field)) (text_too_long row col) passes)

-- a row without a fault has a cell at each place
record_cells : (types : List ValueType) (row : ℕ) (fields : Fields) → row_fault types row fields ≡ None
    → (col : ℕ) → col < length types → IsCell (type_at types col) (cell_value (type_at types col) (field_in fields col))
record_cells types row fields passes col below =
    let counted = none_left (count_fault row) (record_fault types row fields) passes in
    let parts = none_left (length_fault types row fields) (first_at (cell_fault types row fields) 0 (length types)) counted.1 in
    field_is_cell (type_at types col) row col (field_in fields col)
    (first_at-none (cell_fault types row fields) 0 (length types) parts.1 col (omega arith) (omega arith))

-- rows without a fault have cells in the column at each place
rows_cells : (types : List ValueType) (row : ℕ) (rows : List Fields) → rows_fault types row rows ≡ None
    → (col : ℕ) → col < length types → All (IsCell (type_at types col)) (column_of (type_at types col) col rows)
rows_cells types row [] passes col below = λ k d past. absurd (omega arith)
rows_cells types row (fields ∷ rows) passes col below =
    let parts = none_left (row_fault types row fields) (rows_fault types (suc row) rows) passes in
    All-cons (IsCell (type_at types col)) (cell_value (type_at types col) (field_in fields col)) (column_of (type_at types col) col rows)
    (record_cells types row fields parts.0 col below) (rows_cells types (suc row) rows parts.1 col below)

-- rows without a fault, counted from a number within the limit, stay within it
rows_few : (types : List ValueType) (row : ℕ) (rows : List Fields) → row ≤ 100001 → rows_fault types row rows ≡ None
    → row + length rows ≤ 100001
rows_few types row [] low passes = omega arith
rows_few types row (fields ∷ rows) low passes =
    let parts = none_left (row_fault types row fields) (rows_fault types (suc row) rows) passes in
    let counted = none_left (count_fault row) (record_fault types row fields) parts.0 in
    let within : row ≤ 100000 = ltb-false 100000 row (not_held (nat_lt 100000 row) too_many_rows counted.0) in
    let rest : suc row + length rows ≤ 100001 = rows_few types (suc row) rows (omega arith) parts.1 in
    omega arith

-- the columns have the form of the table's columns, from a place on
columns_form : (infos : List AttrInfo) (col : ℕ) (rows : List Fields)
    → ((k place : ℕ) → place ≡ col + k → k < length infos → All (IsCell (type_at (types_of infos) k)) (column_of (type_at (types_of infos) k) place rows))
    → AllZip (IsColumn (length rows)) infos (columns_from (types_of infos) col rows)
columns_form [] col rows cells = tt
columns_form (info ∷ infos) col rows cells = (
  record { filled = length-map rows (λ fields. cell_value info.ty (field_in fields col)); cells = cells 0 col (omega arith) (omega arith) },
  columns_form infos (suc col) rows (λ k place is below. cells (suc k) place (omega arith) (omega arith)),
)

-- the content of rows without a fault has the form that the schema tells
pub content_form : (schema : Schema) (t : ℕ) (rows : List Fields) → rows_fault (types_of (columns_of schema t)) 1 rows ≡ None
    → HasForm schema (content_of t (types_of (columns_of schema t)) rows)
content_form schema t rows passes =
    let columns = columns_of schema t in
    let few : 1 + length rows ≤ 100001 = rows_few (types_of columns) 1 rows (omega arith) passes in
    let long : length (types_of columns) ≡ length columns = length-map columns (λ (column : AttrInfo). column.ty) in
    record {
      few_rows = omega arith;
      columns = columns_form columns 0 rows (λ k place is below.
          let here : place ≡ k = omega arith in
          rw here (rows_cells (types_of columns) 1 rows passes k (omega arith)));
    }
