-- How the digits of a number are taken one by one.
use Rattle.std.proofs.Common.{◌≡◌, ℕ, ◌+◌, ◌<◌, List, [], ◌∷◌, Some, None, true, false, length, drop, get_or, refl, arith}
use Rattle.std.specs.Char.{is_ascii_digit}
use Rattle.std.specs.Str.{all_ascii_digits}
use Rattle.std.specs.Str.Parse.{digits_value}
use Rattle.std.proofs.lemmas.Int.Digits.{digits_value_more}
use Rattle.std.proofs.lemmas.List.{drop_more}
use Rattle.std.proofs.lemmas.Str.{digit_value_digit}
use Rattle.word_forms.specs.Integers.{natural_of}

-- digits alone are a number
pub natural_of-digits : (digits : List ℕ) → 0 < length digits → all_ascii_digits digits ≡ true
    → natural_of digits ≡ Some (digits_value 10 digits)
natural_of-digits [] some all = absurd (omega arith)
natural_of-digits (digit ∷ digits) some all = rw all refl

-- with any other byte there is none
pub natural_of-others : (digits : List ℕ) → all_ascii_digits digits ≡ false → natural_of digits ≡ None
natural_of-others [] other = refl
natural_of-others (digit ∷ digits) other = rw other refl

-- the rest of the bytes, from a digit on
pub all_ascii_digits-more : (bytes : List ℕ) (at : ℕ) → at < length bytes → is_ascii_digit (get_or bytes at 0) ≡ true
    → all_ascii_digits (drop at bytes) ≡ all_ascii_digits (drop (at + 1) bytes)
all_ascii_digits-more bytes at below digit = rw (drop_more bytes at 0 below, digit) refl

-- the rest of the bytes, from another byte on
pub all_ascii_digits-stop : (bytes : List ℕ) (at : ℕ) → at < length bytes → is_ascii_digit (get_or bytes at 0) ≡ false
    → all_ascii_digits (drop at bytes) ≡ false
all_ascii_digits-stop bytes at below other = rw (drop_more bytes at 0 below, other) refl

pub ruleset digit_by_digit = (natural_of-digits, natural_of-others, all_ascii_digits-more, all_ascii_digits-stop, digits_value_more, digit_value_digit)
