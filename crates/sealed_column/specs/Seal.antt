-- The seal of a value under a scheme and a key, at a place and a row, and what it says that a cell opens to a value.
-- docs/CIPHERS.md, "Sealed columns", tells it in prose.
use Rattle.std.specs.Prelude.{◌≡◌, ℕ, ◌+◌, ◌*◌, ◌<◌, Bool, true, false, IsTrue, nat_le, List, [], ◌∷◌, length}
use Rattle.std.specs.List.{All}
use Rattle.mq_base.specs.declared.table.Scheme.{Scheme}
use Rattle.mq_base.specs.declared.table.Scheme.TheVariants.{Rnd, Det, Ope}
use Rattle.mq_base.specs.declared.value.Value.{Value}
use Rattle.mq_base.specs.declared.value.Value.TheVariants.{Int, Text}
use Rattle.mq_base.specs.declared.value.ValueType.{ValueType}
use Rattle.mq_base.specs.declared.value.ValueType.TheVariants as type
use Rattle.mq_base.specs.Bytes.{Fits, block_of, digits_of, block_length, digits_length}
use Rattle.cipher_feistel.specs.Feistel as feistel
use Rattle.cipher_order.specs.Order as order
use Rattle.cipher_stream.specs.Stream as stream

-- the cell of a value under a key: of its block, or under the order-preserving scheme of its digit string; the place of the
-- step and the row count under the randomised scheme alone
abbrev pub seal : Scheme → List ℕ → ℕ → ℕ → Value → List ℕ
seal Rnd key place row value = stream.sealed key place row (block_of value)
seal Det key place row value = feistel.sealed key (block_of value)
seal Ope key place row value = order.sealed key (digits_of value)

-- the cells of values that stand in rows from this one on
abbrev pub sealed_from : Scheme → List ℕ → ℕ → ℕ → List Value → List (List ℕ)
sealed_from scheme key place row [] = []
sealed_from scheme key place row (value ∷ rest) = seal scheme key place row value ∷ sealed_from scheme key place (row + 1) rest

-- the number of bytes of a cell
abbrev pub cell_length : Scheme → ValueType → ℕ
cell_length Rnd ty = block_length ty + 12
cell_length Det ty = block_length ty
cell_length Ope ty = 2 * digits_length ty

-- a TEXT is made of bytes
abbrev pub HasBytes : Value → Type 0
HasBytes (Int x) = Unit {0}
HasBytes (Text t) = All (λ byte. byte < 256) t

-- a value that is sealed: an INT within 128 bits, or a TEXT of at most 120 bytes
pub record IsSealable (value : Value) : Type 0 where
  pub fits : Fits value
  pub bytes : HasBytes value

-- the cell is the seal of the value under the key; a randomised one at the place and the row that it names
pub record Opens (scheme : Scheme) (key cell : List ℕ) (value : Value) : Type 0 where
  pub sealable : IsSealable value
  pub is_seal : cell ≡ seal scheme key (stream.step_of cell) (stream.row_of cell) value

-- whether a value is of this type, a TEXT with at most 120 bytes
abbrev pub is_value_of : ValueType → Value → Bool
is_value_of type.Int (Int x) = true
is_value_of type.Int (Text t) = false
is_value_of type.Text (Int x) = false
is_value_of type.Text (Text t) = nat_le (length t) 120

abbrev pub IsValueOf : ValueType → Value → Type 0
IsValueOf ty value = IsTrue (is_value_of ty value)
