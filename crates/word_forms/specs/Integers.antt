-- What a number in a file spells. docs/FORMATS.md, "Table file" and "Query", tell it in prose.
use Rattle.std.specs.Prelude.{ℕ, ◌==◌, List, [], ◌∷◌, Option, Some, None, option_map, ℤ, pos, neg_ℤ, if◌then◌else◌}
use Rattle.std.specs.Option.{option_and_then}
use Rattle.std.specs.Str.{all_ascii_digits}
use Rattle.std.specs.Str.Parse.{digits_value}
use Rattle.base_laws.specs.Ranges.{fits_64_bits}

-- the byte '-'
abbrev pub minus : ℕ
minus = 45

-- the number of at least one digit and of nothing else
abbrev pub natural_of : List ℕ → Option ℕ
natural_of [] = None
natural_of (digit ∷ digits) =
    if all_ascii_digits (digit ∷ digits) then Some (digits_value 10 (digit ∷ digits)) else None

-- the number of an optional '-' and at least one digit, however large
abbrev pub int_of : List ℕ → Option ℤ
int_of [] = None
int_of (first ∷ rest) =
    if first == minus then option_map (λ n. neg_ℤ (pos n)) (natural_of rest)
    else option_map (λ n. pos n) (natural_of (first ∷ rest))

-- the number itself where it fits in 64 bits
abbrev pub within_64_bits : ℤ → Option ℤ
within_64_bits z = if fits_64_bits z then Some z else None

-- the integer that a text spells, where it spells one that fits
abbrev pub integer_of : List ℕ → Option ℤ
integer_of text = option_and_then within_64_bits (int_of text)
