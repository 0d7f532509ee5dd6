-- What the layers that seal values rest on: blocks and digit strings determine and order their values. docs/CIPHERS.md,
-- "Values as bytes", tells it in prose.
use Rattle.std.specs.Prelude.{◌≡◌, ℕ, length}
use Rattle.std.specs.Ordering.{nat_cmp}
use Rattle.std.specs.Cmp.Lexicographic.{slice_cmp}
use Rattle.mq_base.specs.declared.value.Value.{Value}
use Rattle.mq_base.specs.Value.{type_of, value_cmp}
use Rattle.mq_base.specs.Bytes.{IsShort, Fits, block_of, digits_of, block_length, digits_length}

-- two values with one block are one
abbrev pub BlocksDetermine : Type 0
BlocksDetermine = (v w : Value) → Fits v → Fits w → block_of v ≡ block_of w → v ≡ w

-- the digit strings of two values of one type are in the order of the values
abbrev pub DigitsAreOrdered : Type 0
DigitsAreOrdered = (v w : Value) → Fits v → Fits w → type_of v ≡ type_of w → slice_cmp nat_cmp (digits_of v) (digits_of w) ≡ value_cmp v w

-- a value's block and digit string have its type's lengths
pub record HasLengths (value : Value) : Type 0 where
  pub of_block : length (block_of value) ≡ block_length (type_of value)
  pub of_digits : length (digits_of value) ≡ digits_length (type_of value)

-- and so has each value with a block
abbrev pub LengthsAreTheTypes : Type 0
LengthsAreTheTypes = (value : Value) → IsShort value → HasLengths value
