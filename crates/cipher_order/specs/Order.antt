-- The order-preserving seal as functions on lists of digits: each digit has a gap drawn from the key,
-- a digit's height is the sum of the gaps up to it, and a cell has the heights in turn
-- (docs/CIPHERS.md, "Order-preserving seal").
use Rattle.std.specs.Prelude.{ℕ, zero, suc, ◌+◌, ◌/◌, ◌%◌, ◌≤◌, List, [], ◌∷◌, ◌++◌, length, slice_index}
use Rattle.std.specs.Int.{w16, to_be_bytes}
use Rattle.std.specs.List.{All, flat_map}
use Rattle.sha2.specs.Sha256.{sha256}

-- each number is a digit: at most 256
abbrev pub IsDigits : List ℕ → Type 0
IsDigits digits = All (λ d. d ≤ 256) digits

-- a digit or a height as two bytes, high byte first
abbrev pub digit_bytes : ℕ → List ℕ
digit_bytes d = to_be_bytes w16 d

-- block q of the bytes that the gaps come from, at the position after the earlier digits
unfoldable pub gap_block : List ℕ → List ℕ → ℕ → List ℕ
gap_block key earlier q = sha256 (key ++ 79 ∷ length earlier ∷ q ∷ flat_map digit_bytes earlier)

-- the gap of digit i at the position after the earlier digits: from 1 to 255
unfoldable pub gap : List ℕ → List ℕ → ℕ → ℕ
gap key earlier i = 1 + slice_index (gap_block key earlier (i / 32)) (i % 32) % 255

-- the height of a digit at that position: the sum of the gaps of digits 0 to it
unfoldable pub height : List ℕ → List ℕ → ℕ → ℕ
height key earlier zero = gap key earlier 0
height key earlier (suc d) = height key earlier d + gap key earlier (suc d)

-- the cell of digits that follow the earlier ones: each digit's height in turn
unfoldable pub sealed_from : List ℕ → List ℕ → List ℕ → List ℕ
sealed_from key earlier [] = []
sealed_from key earlier (d ∷ digits) =
    digit_bytes (height key earlier d) ++ sealed_from key (earlier ++ d ∷ []) digits

-- the cell of a whole string of digits
unfoldable pub sealed : List ℕ → List ℕ → List ℕ
sealed key digits = sealed_from key [] digits
