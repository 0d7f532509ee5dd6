-- What it says that a value was read from a block, from a digit string or from a cell, and what a memo tells of values and cells met before.
use Rattle.std.specs.Prelude.{◌≡◌, ℕ, zero, suc, Bool, List, [], ◌∷◌, Some, slice_get}
use Rattle.std.specs.HashMap.{HashMap, get}
use Rattle.std.specs.Option.{IsSomeAnd}
use Rattle.mq_base.specs.declared.table.Scheme.{Scheme}
use Rattle.mq_base.specs.declared.value.Value.{Value}
use Rattle.mq_base.specs.declared.value.Value.TheVariants.{Int, Text}
use Rattle.mq_base.specs.declared.value.ValueType.{ValueType}
use Rattle.mq_base.specs.Value.{type_of}
use Rattle.sealed_column.specs.declared.memo.Key.{Key}
use Rattle.sealed_column.specs.declared.memo.Key.TheVariants as key
use Rattle.sealed_column.specs.declared.memo.Bytes.{Bytes}
use Rattle.sealed_column.specs.contracts.memo.BytesPartialEq.TheImpl as bytes_eq
use Rattle.sealed_column.specs.contracts.memo.KeyPartialEq.TheImpl as key_eq
use Rattle.sealed_column.specs.Seal.{IsSealable, IsValueOf, Opens, seal}

-- the value is of its type, and where these are the bytes (the digits) of a value of the type, it is that value
pub record IsRead (spelling : Value → List ℕ) (ty : ValueType) (spelt : List ℕ) (value : Value) : Type 0 where
  pub form : IsValueOf ty value
  pub read : (v : Value) → type_of v ≡ ty → IsSealable v → spelling v ≡ spelt → value ≡ v

-- the value is of its type, and where the cell opens to a value of the type, it is that value
pub record IsOpened (scheme : Scheme) (key : List ℕ) (ty : ValueType) (cell : List ℕ) (value : Value) : Type 0 where
  pub form : IsValueOf ty value
  pub opened : (v : Value) → type_of v ≡ ty → Opens scheme key cell v → value ≡ v

-- the cell is the seal of the value at any place and row
abbrev pub IsSealOf : Scheme → List ℕ → Value → List ℕ → Type 0
IsSealOf scheme key value cell = (place row : ℕ) → cell ≡ seal scheme key place row value

-- the bytes that digits stand for, up to the first digit that stands for none
abbrev pub undigits : List ℕ → List ℕ
undigits [] = []
undigits (zero ∷ rest) = []
undigits (suc byte ∷ rest) = byte ∷ undigits rest

-- whether two keys of a memo are equal: of values, and of cells
abbrev pub same_key : Key → Key → Bool
same_key = (key_eq.ghosts).eq

abbrev pub same_bytes : Bytes → Bytes → Bool
same_bytes = (bytes_eq.ghosts).eq

-- what a key of a memo stands for: a value, or the bytes of a cell
abbrev pub value_at : Key → Value
value_at (key.Int x) = Int x
value_at (key.Text text) = Text text.bytes.now

abbrev pub bytes_at : Bytes → List ℕ
bytes_at key = key.bytes.now

-- each row that the memo tells is one of those made so far, and what stands there belongs to what the key stands for
pub record IsMemo {K A C S : Type 0} (same : K → K → Bool) (at : K → A) (belongs : A → C → Type 0) (made : List C)
    (memo : HashMap K ℕ S) : Type 0 where
  pub told : (k : K) (row : ℕ) → get same memo k ≡ Some row → IsSomeAnd (slice_get made row) (belongs (at k))
