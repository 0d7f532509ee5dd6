-- Tests of single bytes: no byte begins tokens of two kinds, and what ends a token is ASCII.
use Rattle.std.proofs.Common.{◌≡◌, ◌≢◌, ℕ, ◌<◌, ◌==◌, true, false, arith}
use Rattle.std.specs.Char.{is_ascii_digit}
use Rattle.std.proofs.lemmas.Bool.Decides.{nat_tests}
use Rattle.word_forms.specs.Words.{is_first, is_later}
use Rattle.sql_lexer.specs.Lexing.{is_white, is_quote, is_short_symbol, is_long_symbol}

pub quote_is : (b : ℕ) → b ≡ 39 → is_quote b ≡ true
quote_is b same = grind (arith, nat_tests)

pub quote_is_not : (b : ℕ) → b ≢ 39 → is_quote b ≡ false
quote_is_not b other = grind (arith, nat_tests)

pub is_from_quote : (b : ℕ) → is_quote b ≡ true → b ≡ 39
is_from_quote b quote = grind (arith, nat_tests)

pub is_not_from_quote : (b : ℕ) → is_quote b ≡ false → b ≢ 39
is_not_from_quote b no_quote same = grind (arith, nat_tests)

pub is_from_minus : (b : ℕ) → (b == 45) ≡ true → b ≡ 45
is_from_minus b minus = grind (arith, nat_tests)

-- a letter or a digit is no white space
pub letter_no_white : (b : ℕ) → is_first b ≡ true → is_white b ≡ false
letter_no_white b letter = grind (arith, nat_tests)

pub digit_no_white : (b : ℕ) → is_ascii_digit b ≡ true → is_white b ≡ false
digit_no_white b digit = grind (arith, nat_tests)

pub digit_no_letter : (b : ℕ) → is_ascii_digit b ≡ true → is_first b ≡ false
digit_no_letter b digit = grind (arith, nat_tests)

-- the byte begins no token but a symbol, and is no white space
pub record IsApart (b : ℕ) : Type 0 where
  pub no_white : is_white b ≡ false
  pub no_letter : is_first b ≡ false
  pub no_digit : is_ascii_digit b ≡ false
  pub no_minus : (b == 45) ≡ false
  pub no_quote : is_quote b ≡ false

pub short_apart : (b : ℕ) → is_short_symbol b ≡ true → IsApart b
short_apart b symbol = record {
  no_white = grind (arith, nat_tests);
  no_letter = grind (arith, nat_tests);
  no_digit = grind (arith, nat_tests);
  no_minus = grind (arith, nat_tests);
  no_quote = grind (arith, nat_tests);
}

pub long_apart : (a b : ℕ) → is_long_symbol a b ≡ true → IsApart a
long_apart a b symbol = record {
  no_white = grind (arith, nat_tests);
  no_letter = grind (arith, nat_tests);
  no_digit = grind (arith, nat_tests);
  no_minus = grind (arith, nat_tests);
  no_quote = grind (arith, nat_tests);
}

-- bytes of tokens are ASCII, but for the inside of a text
pub letter_ascii : (b : ℕ) → is_first b ≡ true → b < 128
letter_ascii b letter = grind (arith, nat_tests)

pub word_byte_ascii : (b : ℕ) → is_later b ≡ true → b < 128
word_byte_ascii b word = grind (arith, nat_tests)

pub digit_ascii : (b : ℕ) → is_ascii_digit b ≡ true → b < 128
digit_ascii b digit = grind (arith, nat_tests)

pub white_ascii : (b : ℕ) → is_white b ≡ true → b < 128
white_ascii b white = grind (arith, nat_tests)

pub short_ascii : (b : ℕ) → is_short_symbol b ≡ true → b < 128
short_ascii b symbol = grind (arith, nat_tests)

pub long_ascii : (a b : ℕ) → is_long_symbol a b ≡ true → b < 128
long_ascii a b symbol = grind (arith, nat_tests)
