-- How the first fault of rows goes on from row to row.
use Rattle.std.proofs.Common.{◌≡◌, ℕ, ◌+◌, ◌<◌, ◌≤◌, List, ◌∷◌, Option, Some, None, refl, arith, add-one, nat_lt, true, false}
use Rattle.std.proofs.lemmas.Bool.Decides.{nat_tests}
use Rattle.mq_base.specs.declared.value.ValueType.{ValueType}
use Rattle.mq_base.specs.declared.refusal.Refusal.{Refusal}
use Rattle.base_laws.specs.Firsts.{IsTold}
use Rattle.base_laws.proofs.FirstLaws.{told-on}
use Rattle.table_reader.specs.Codes.{too_many_rows}
use Rattle.table_reader.specs.Faults.{record_fault, rows_fault}
use Rattle.table_reader.specs.Records.{Fields}

not_above : (limit n : ℕ) → n ≤ limit → nat_lt limit n ≡ false
not_above limit n low = grind (arith, nat_tests)

above : (limit n : ℕ) → limit < n → nat_lt limit n ≡ true
above limit n high = grind (arith, nat_tests)

-- a row within the limit that passes
pub row_passes : (types : List ValueType) (row : ℕ) (fields : Fields) (rest : List Fields) → row ≤ 100000
    → record_fault types row fields ≡ None → rows_fault types row (fields ∷ rest) ≡ rows_fault types (row + 1) rest
row_passes types row fields rest few passes = rw (not_above 100000 row few, passes, add-one) refl

-- a row within the limit that has a fault
pub row_stops : (types : List ValueType) (row : ℕ) (fields : Fields) (rest : List Fields) (told : Option Refusal) → row ≤ 100000
    → IsTold told (record_fault types row fields) → IsTold told (rows_fault types row (fields ∷ rest))
row_stops types row fields rest told few is =
    told-on told (record_fault types row fields) (rows_fault types row (fields ∷ rest))
    (λ fault found. rw (not_above 100000 row few, found) refl) is

-- a row above the limit
pub row_above : (types : List ValueType) (row : ℕ) (fields : Fields) (rest : List Fields) → 100000 < row
    → rows_fault types row (fields ∷ rest) ≡ Some too_many_rows
row_above types row fields rest many = rw (above 100000 row many) refl
