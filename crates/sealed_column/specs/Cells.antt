-- Columns as lists of cells: which values they open to, how the cells at two rows are ordered, and the cells at listed rows.
-- docs/CIPHERS.md, "Sealed columns", tells it in prose.
use Rattle.std.specs.Prelude.{◌≡◌, ℕ, List, filter_map, slice_get, slice_index, length, pos, ℤ, ◌+ℤ◌, fold}
use Rattle.std.specs.List.{AllZip, IsFirstBest}
use Rattle.std.specs.Option.{option_cmp}
use Rattle.std.specs.Ordering.{is_lt}
use Rattle.std.specs.declared.cmp.Ordering.{Ordering}
use Rattle.mq_base.specs.declared.value.Value.{Value}
use Rattle.mq_base.specs.declared.value.Value.TheVariants.{Int, Text}
use Rattle.mq_base.specs.declared.value.ValueType.{ValueType}
use Rattle.mq_base.specs.Value.{type_of}

-- a cell opens to a value of this type
pub record OpensAt {C : Type 0} (opens : C → Value → Type 0) (ty : ValueType) (cell : C) (value : Value) : Type 0 where
  pub typed : type_of value ≡ ty
  pub opened : opens cell value

-- the cells open to these values of one type, each to the value at its place
abbrev pub OpenTo : {C : Type 0} → (C → Value → Type 0) → ValueType → List C → List Value → Type 0
OpenTo opens ty cells values = AllZip (OpensAt opens ty) cells values

-- what is said of the values that a column's cells open to, whatever the key is
abbrev pub OnValues : {C : Type 0} → (List ℕ → C → Value → Type 0) → ValueType → List C → (List Value → Type 0) → Type 0
OnValues opens ty cells say = (key : List ℕ) (values : List Value) → OpenTo (opens key) ty cells values → say values

-- what is said of the values that the cells of two columns open to under one key
abbrev pub OnBothValues : {C : Type 0} → (List ℕ → C → Value → Type 0) → ValueType → List C → List C
    → (List Value → List Value → Type 0) → Type 0
OnBothValues opens ty cells others say =
    (key : List ℕ) (values more : List Value) → OpenTo (opens key) ty cells values → OpenTo (opens key) ty others more → say values more

-- the order of the cell at a row of one column and the cell at a row of another
abbrev pub order_at : {C : Type 0} → (C → C → Ordering) → List C → ℕ → List C → ℕ → Ordering
order_at cmp cells row others other_row = option_cmp cmp (slice_get cells row) (slice_get others other_row)

-- the cells at these rows, in the order of the rows
abbrev pub picked : {C : Type 0} → List C → List ℕ → List C
picked cells rows = filter_map (slice_get cells) rows

-- the row is the first listed one that holds the least cell of the listed rows
pub record IsFirstLeast {C : Type 0} (cmp : C → C → Ordering) (cells : List C) (rows : List ℕ) (row : ℕ) : Type 0 where
  pub place : ℕ
  pub first : IsFirstBest (λ r s. is_lt (order_at cmp cells r cells s)) rows (length rows) place
  pub stands : row ≡ slice_index rows place

-- the row is the first listed one that holds the greatest cell of the listed rows
pub record IsFirstGreatest {C : Type 0} (cmp : C → C → Ordering) (cells : List C) (rows : List ℕ) (row : ℕ) : Type 0 where
  pub place : ℕ
  pub first : IsFirstBest (λ r s. is_lt (order_at cmp cells s cells r)) rows (length rows) place
  pub stands : row ≡ slice_index rows place

-- the number that an INT is; only INT are summed
abbrev pub number_of : Value → ℤ
number_of (Int x) = x
number_of (Text t) = pos 0

-- the sum of the numbers of a list
abbrev pub sum_of : List Value → ℤ
sum_of values = fold (λ total value. total +ℤ number_of value) (pos 0) values
