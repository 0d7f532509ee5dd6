-- A number within 64 bits that is written in decimal is a number that spells it.
use Rattle.std.proofs.Common.{◌≡◌, inl, inr, ℕ, suc, ◌<◌, ◌^◌, ◌==◌, ◌&&◌, true, false, List, [], ◌∷◌, length, Some, None, refl, sym, ap, ◌∙◌, arith}
use Rattle.std.specs.Prelude.{ℤ, pos, negsuc, neg_ℤ, option_map}
use Rattle.std.specs.Option.{option_and_then}
use Rattle.std.specs.Fmt.{decimal, signed_decimal}
use Rattle.std.specs.List.{list_all}
use Rattle.std.specs.Char.{is_ascii_digit}
use Rattle.std.specs.Str.{all_ascii_digits}
use Rattle.std.specs.Str.Parse.{digits_value}
use Rattle.std.proofs.lemmas.Bool.Decides.{nat_tests}
use Rattle.std.proofs.lemmas.Fmt.{digits_decimal, digits_value-decimal, decimal_nonempty}
use Rattle.std.proofs.lemmas.Str.Parse.{IsNumeralModel, numerals_by_value, tells_all_ascii_digits}
use Rattle.base_laws.specs.Ranges.{fits_64_bits}
use Rattle.base_laws.proofs.RangeLaws.{fits_64_bits-Decides}
use Rattle.word_forms.specs.Integers.{minus, natural_of, int_of, within_64_bits, integer_of}
use Rattle.word_forms.proofs.IntegerLaws.{natural_of-digits}
use Rattle.sql_lexer.specs.Longest.{AreDigits, IsNumber}
use Rattle.base_laws.proofs.BoolLaws.{both}
use Rattle.sql_lexer.proofs.Runs.{chosen_first, chosen_second}

own : IsNumeralModel (λ ds. all_ascii_digits ds ≡ true) (digits_value 10)
own = numerals_by_value (λ ds. all_ascii_digits ds ≡ true) tells_all_ascii_digits

all_ascii_digits-list_all : (ds : List ℕ) → all_ascii_digits ds ≡ list_all is_ascii_digit ds
all_ascii_digits-list_all [] = refl
all_ascii_digits-list_all (d ∷ ds) = ap (λ t. is_ascii_digit d && t) (all_ascii_digits-list_all ds)

digits_are : (ds : List ℕ) → 0 < length ds → all_ascii_digits ds ≡ true → AreDigits ds
digits_are [] some all = absurd (omega arith)
digits_are (d ∷ ds) some all =
    let parts = both (is_ascii_digit d) (all_ascii_digits ds) all in
    (parts.0, sym (all_ascii_digits-list_all ds) ∙ parts.1)

decimal_digits : (n : ℕ) → n < 2 ^ 64 → AreDigits (decimal n)
decimal_digits n small = digits_are (decimal n) (decimal_nonempty n small) (digits_decimal own n small)

natural_of-decimal : (n : ℕ) → n < 2 ^ 64 → natural_of (decimal n) ≡ Some n
natural_of-decimal n small =
    natural_of-digits (decimal n) (decimal_nonempty n small) (digits_decimal own n small)
    ∙ ap (λ m. Some m) (digits_value-decimal own n small)

digit_no_minus : (d : ℕ) → is_ascii_digit d ≡ true → (d == minus) ≡ false
digit_no_minus d digit = grind (arith, nat_tests)

-- digits alone have no sign
int_of-digits : (ds : List ℕ) → AreDigits ds → int_of ds ≡ option_map (λ n. pos n) (natural_of ds)
int_of-digits [] digits = absurd digits
int_of-digits (d ∷ ds) digits = chosen_second (d == minus) _ _ (digit_no_minus d digits.0)

digits_number : (ds : List ℕ) → AreDigits ds → IsNumber ds
digits_number [] digits = digits
digits_number (d ∷ ds) digits = inl digits

-- a number within 64 bits is less than 2 ^ 64 without its sign
pos_small : (n : ℕ) → fits_64_bits (pos n) ≡ true → n < 2 ^ 64
pos_small n fits = let is = (fits_64_bits-Decides (pos n)).0 fits in omega (arith, is.sfits)

negsuc_small : (n : ℕ) → fits_64_bits (negsuc n) ≡ true → suc n < 2 ^ 64
negsuc_small n fits = let is = (fits_64_bits-Decides (negsuc n)).0 fits in omega (arith, is.sfits)

pub signed_decimal-number : (z : ℤ) → fits_64_bits z ≡ true → IsNumber (signed_decimal z)
signed_decimal-number (pos n) fits = digits_number (decimal n) (decimal_digits n (pos_small n fits))
signed_decimal-number (negsuc n) fits = inr (refl, decimal_digits (suc n) (negsuc_small n fits))

int_of-signed_decimal : (z : ℤ) → fits_64_bits z ≡ true → int_of (signed_decimal z) ≡ Some z
int_of-signed_decimal (pos n) fits =
    int_of-digits (decimal n) (decimal_digits n (pos_small n fits))
    ∙ ap (option_map (λ m. pos m)) (natural_of-decimal n (pos_small n fits))
int_of-signed_decimal (negsuc n) fits =
    ap (option_map (λ m. neg_ℤ (pos m))) (natural_of-decimal (suc n) (negsuc_small n fits))

-- what is written spells the number
pub integer_of-signed_decimal : (z : ℤ) → fits_64_bits z ≡ true → integer_of (signed_decimal z) ≡ Some z
integer_of-signed_decimal z fits =
    ap (option_and_then within_64_bits) (int_of-signed_decimal z fits) ∙ chosen_first (fits_64_bits z) (Some z) None fits

number_filled : (text : List ℕ) → IsNumber text → 0 < length text
number_filled [] number = absurd number
number_filled (b ∷ rest) number = omega arith

pub signed_decimal-filled : (z : ℤ) → fits_64_bits z ≡ true → 0 < length (signed_decimal z)
signed_decimal-filled z fits = number_filled (signed_decimal z) (signed_decimal-number z fits)
