-- Where a token ends: behind an ASCII byte, so that no character is split.
use Rattle.std.proofs.Common.{◌≡◌, ◌⊎◌, inl, inr, ℕ, suc, ◌+◌, ◌-◌, ◌<◌, Bool, true, List, [], ◌∷◌, ◌++◌, length, take, get_or, IsUtf8, ap, subst, ◌∙◌, arith, length-take-le, get_or-take}
use Rattle.std.specs.List.{list_all}
use Rattle.std.specs.Char.{is_ascii_digit}
use Rattle.std.specs.Str.{IsCharBoundary}
use Rattle.std.proofs.lemmas.Str.{IsCharBoundary-after_ascii}
use Rattle.sql_lexer.specs.declared.token.TokenKind.{TokenKind}
use Rattle.sql_lexer.specs.declared.token.TokenKind.TheVariants.{Word, Number, Text, Symbol}
use Rattle.word_forms.specs.Words.{is_first, is_later}
use Rattle.sql_lexer.specs.Lexing.{is_white}
use Rattle.sql_lexer.specs.Longest.{AreDigits, IsToken, IsLongest}
use Rattle.sql_lexer.proofs.Bytes.{letter_ascii, word_byte_ascii, digit_ascii, white_ascii, short_ascii, long_ascii}
use Rattle.base_laws.proofs.BoolLaws.{both}

-- the last of the bytes is ASCII
abbrev EndsAscii : List ℕ → Type 0
EndsAscii [] = ⊥
EndsAscii (b ∷ []) = b < 128
EndsAscii (b ∷ c ∷ rest) = EndsAscii (c ∷ rest)

run-ends : (test : ℕ → Bool) → ((b : ℕ) → test b ≡ true → b < 128) → (b : ℕ) (rest : List ℕ) → b < 128
    → list_all test rest ≡ true → EndsAscii (b ∷ rest)
run-ends test ascii b [] first all = first
run-ends test ascii b (c ∷ rest) first all =
    let parts = both (test c) (list_all test rest) all in
    run-ends test ascii c rest (ascii c parts.0) parts.1

digits-end : (bytes : List ℕ) → AreDigits bytes → EndsAscii bytes
digits-end [] digits = digits
digits-end (b ∷ rest) digits = run-ends is_ascii_digit digit_ascii b rest (digit_ascii b digits.0) digits.1

quote-ends : (bytes : List ℕ) → EndsAscii (bytes ++ 39 ∷ [])
quote-ends [] = omega arith
quote-ends (b ∷ []) = omega arith
quote-ends (b ∷ c ∷ rest) = quote-ends (c ∷ rest)

behind-ends : (b : ℕ) (bytes : List ℕ) → EndsAscii bytes → EndsAscii (b ∷ bytes)
behind-ends b [] ends = absurd ends
behind-ends b (c ∷ rest) ends = ends

token-ends : (kind : TokenKind) (text : List ℕ) → IsToken kind text → EndsAscii text
token-ends Word [] word = cc
token-ends Word (b ∷ rest) word =
    let parts = both (is_first b) (list_all is_later rest) word in run-ends is_later word_byte_ascii b rest (letter_ascii b parts.0) parts.1
token-ends Number [] number = number
token-ends Number (b ∷ rest) number = by_sign number
  where
    by_sign : AreDigits (b ∷ rest) ⊎ ((b ≡ 45) × AreDigits rest) → EndsAscii (b ∷ rest)
    by_sign (inl digits) = digits-end (b ∷ rest) digits
    by_sign (inr signed) = behind-ends b rest (digits-end rest signed.1)
token-ends Text text is_text = rw (is_text.spelled) (quote-ends (39 ∷ is_text.inside))
token-ends Symbol [] symbol = symbol
token-ends Symbol (a ∷ []) symbol = short_ascii a symbol
token-ends Symbol (a ∷ b ∷ []) symbol = long_ascii a b symbol
token-ends Symbol (a ∷ b ∷ c ∷ rest) symbol = absurd symbol

last-ascii : (bytes : List ℕ) → EndsAscii bytes → (0 < length bytes) × (get_or bytes (length bytes - 1) 0 < 128)
last-ascii [] ends = absurd ends
last-ascii (b ∷ []) ends = (omega arith, ends)
last-ascii (b ∷ c ∷ rest) ends =
    let here : suc (suc (length rest)) - 1 ≡ suc (length rest) = omega arith in
    let there : suc (length rest) - 1 ≡ length rest = omega arith in
    (omega arith, rw here (rw there at ((last-ascii (c ∷ rest) ends).1)))

-- a token that stands in front is not empty, and may be cut off
pub longest_cut : (kind : TokenKind) (n : ℕ) (bytes : List ℕ) → IsLongest kind n bytes
    → (0 < n) × (IsUtf8 bytes → IsCharBoundary bytes n)
longest_cut kind n bytes longest =
    let long : length (take n bytes) ≡ n = length-take-le n bytes longest.within in
    let last = last-ascii (take n bytes) (token-ends kind (take n bytes) longest.token) in
    let filled : 0 < n = omega (arith, last.0) in
    let same : get_or (take n bytes) (length (take n bytes) - 1) 0 ≡ get_or bytes (n - 1) 0 =
    ap (λ m. get_or (take n bytes) (m - 1) 0) long ∙ get_or-take n bytes (n - 1) 0 (omega arith) in
    let behind : n - 1 + 1 ≡ n = omega arith in (
      filled,
      λ utf8. subst (IsCharBoundary bytes) behind
          (IsCharBoundary-after_ascii bytes (n - 1) utf8 (omega (arith, longest.within)) (omega (arith, same, last.1))),
    )

-- so may white space
pub white_cut : (bytes : List ℕ) → is_white (get_or bytes 0 0) ≡ true → 0 < length bytes → IsUtf8 bytes → IsCharBoundary bytes 1
white_cut bytes white some utf8 = IsCharBoundary-after_ascii bytes 0 utf8 some (white_ascii (get_or bytes 0 0) white)
