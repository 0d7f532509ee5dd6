-- The block and the digit string of a value: the bytes and the digits that are sealed. docs/CIPHERS.md, "Values as bytes", tells them in prose.
use Rattle.std.specs.Prelude.{ℕ, suc, ◌+◌, ◌-◌, ◌^◌, ◌≤◌, ℤ, pos, negsuc, List, ◌∷◌, ◌++◌, length, map, replicate}
use Rattle.std.specs.Int.{w128, to_be_bytes}
use Rattle.std.specs.Int.RustNames.{FitsSigned}
use Rattle.mq_base.specs.declared.value.ValueType.{ValueType}
use Rattle.mq_base.specs.declared.value.ValueType.TheVariants as type
use Rattle.mq_base.specs.declared.value.Value.{Value}
use Rattle.mq_base.specs.declared.value.Value.TheVariants.{Int, Text}

-- a TEXT of at most 120 bytes
abbrev pub IsShort : Value → Type 0
IsShort (Int x) = Unit {0}
IsShort (Text t) = length t ≤ 120

-- an INT within 128 bits, as each INT of a program is
abbrev pub IsRepresentable : Value → Type 0
IsRepresentable (Int x) = FitsSigned w128 x
IsRepresentable (Text t) = Unit {0}

-- a value that has a block and a digit string
pub record Fits (value : Value) : Type 0 where
  pub short : IsShort value
  pub representable : IsRepresentable value

-- an INT counted from the least one within 128 bits: x + 2^127
abbrev pub shifted : ℤ → ℕ
shifted (pos n) = 2 ^ 127 + n
shifted (negsuc n) = 2 ^ 127 - suc n

-- a list with zeros after it, up to a length
abbrev pub filled : ℕ → List ℕ → List ℕ
filled width xs = xs ++ replicate (width - length xs) 0

-- the digit of a byte is one more than the byte, so that 0 is the digit of none
abbrev pub digits : List ℕ → List ℕ
digits bytes = map (λ byte. byte + 1) bytes

-- the 16 bytes of x + 2^127, the highest first
unfoldable pub int_block : ℤ → List ℕ
int_block x = to_be_bytes w128 (shifted x)

-- the block of an INT is these bytes; that of a TEXT is its length, its bytes, and zeros up to 122 bytes
abbrev pub block_of : Value → List ℕ
block_of (Int x) = int_block x
block_of (Text t) = filled 122 (length t ∷ t)

-- the digit string of an INT is the digits of its block; that of a TEXT is the digits of its bytes, and zeros up to 120 digits
abbrev pub digits_of : Value → List ℕ
digits_of (Int x) = digits (int_block x)
digits_of (Text t) = filled 120 (digits t)

-- the number of bytes of a block
abbrev pub block_length : ValueType → ℕ
block_length type.Int = 16
block_length type.Text = 122

-- the number of digits of a digit string
abbrev pub digits_length : ValueType → ℕ
digits_length type.Int = 16
digits_length type.Text = 120
