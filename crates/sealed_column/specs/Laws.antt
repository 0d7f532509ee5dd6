-- What the layers above rest on, as facts about every key, value and cell. docs/CIPHERS.md, "Sealed columns", tells them in prose.
use Rattle.std.specs.Prelude.{◌≡◌, ℕ, ◌+◌, ◌^◌, ◌<◌, ◌≤◌, List, length}
use Rattle.std.specs.List.{All}
use Rattle.std.specs.Cmp.Lexicographic.{slice_cmp}
use Rattle.std.specs.Ordering.{is_eq, nat_cmp}
use Rattle.mq_base.specs.declared.table.Scheme.{Scheme}
use Rattle.mq_base.specs.declared.table.Scheme.TheVariants.{Rnd, Ope}
use Rattle.mq_base.specs.declared.value.Value.{Value}
use Rattle.mq_base.specs.declared.value.ValueType.{ValueType}
use Rattle.mq_base.specs.Bytes.{IsShort}
use Rattle.mq_base.specs.Value.{IsCell, type_of, value_cmp}
use Rattle.sealed_column.specs.Cells.{OpenTo}
use Rattle.sealed_column.specs.Seal.{HasBytes, IsSealable, IsValueOf, Opens, cell_length, seal, sealed_from}

-- the seal of a value opens to it
abbrev pub SealsOpen : Type 0
SealsOpen = (scheme : Scheme) (key : List ℕ) (place row : ℕ) (v : Value) → place < 2 ^ 32 → row < 2 ^ 64 → IsSealable v
    → Opens scheme key (seal scheme key place row v) v

-- and so do the seals of a column's values
abbrev pub ColumnsOpen : Type 0
ColumnsOpen = (scheme : Scheme) (key : List ℕ) (place row : ℕ) (ty : ValueType) (values : List Value) → place < 2 ^ 32
    → row + length values ≤ 2 ^ 64 → All (IsValueOf ty) values → All IsSealable values
    → OpenTo (Opens scheme key) ty (sealed_from scheme key place row values) values

-- a cell opens under a key to no two values of one type
abbrev pub OpensOnce : Type 0
OpensOnce = (scheme : Scheme) (key cell : List ℕ) (v w : Value) → Opens scheme key cell v → Opens scheme key cell w
    → type_of v ≡ type_of w → v ≡ w

-- where the scheme is not the randomised one, cells of values of one type are equal exactly where the values are
abbrev pub EqualityIsKept : Type 0
EqualityIsKept = (scheme : Scheme) (key c d : List ℕ) (v w : Value) → (scheme ≡ Rnd → ⊥) → Opens scheme key c v
    → Opens scheme key d w → type_of v ≡ type_of w → is_eq (slice_cmp nat_cmp c d) ≡ is_eq (value_cmp v w)

-- order-preserving cells of values of one type are ordered as the values are
abbrev pub OrderIsKept : Type 0
OrderIsKept = (key c d : List ℕ) (v w : Value) → Opens Ope key c v → Opens Ope key d w → type_of v ≡ type_of w
    → slice_cmp nat_cmp c d ≡ value_cmp v w

-- a cell is as long as its scheme and its value's type say
abbrev pub LengthsAreTheSchemes : Type 0
LengthsAreTheSchemes = (scheme : Scheme) (key : List ℕ) (place row : ℕ) (v : Value) → IsShort v
    → length (seal scheme key place row v) ≡ cell_length scheme (type_of v)

-- what a table's cell holds is a value of the column's type, and can be sealed
pub record CanBeSealed (ty : ValueType) (v : Value) : Type 0 where
  pub of_type : IsValueOf ty v
  pub sealable : IsSealable v

abbrev pub TableCellsCanBeSealed : Type 0
TableCellsCanBeSealed = (ty : ValueType) (v : Value) → IsCell ty v → HasBytes v → CanBeSealed ty v
