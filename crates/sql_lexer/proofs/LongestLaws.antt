-- What stands in front is a token, and the longest that can be taken; what is refused begins none.
use Rattle.std.proofs.Common.{◌≡◌, ◌≢◌, ◌⊎◌, inl, inr, ℕ, suc, ◌+◌, ◌<◌, ◌≤◌, ◌==◌, true, false, List, [], ◌∷◌, ◌++◌, length, take, drop, get_or, Option, Some, None, refl, sym, ap, subst, ◌∙◌, arith, append_assoc, length-append, length-take-le, take-append-drop}
use Rattle.std.specs.Prelude.{IfSome}
use Rattle.std.specs.List.{prefix_len, list_all}
use Rattle.base_laws.proofs.BoolLaws.{both, together}
use Rattle.std.specs.Char.{is_ascii_digit}
use Rattle.std.proofs.lemmas.List.Sums.{prefix_len-le-length}
use Rattle.sql_lexer.specs.declared.token.TokenKind.{TokenKind}
use Rattle.sql_lexer.specs.declared.token.TokenKind.TheVariants.{Word, Number, Text, Symbol}
use Rattle.sql_lexer.specs.declared.fronts.Front.{Front}
use Rattle.sql_lexer.specs.declared.fronts.Front.TheVariants.{White, Taken, Bad, Open}
use Rattle.word_forms.specs.Words.{is_first, is_later}
use Rattle.sql_lexer.specs.Lexing.{is_white, is_quote, is_short_symbol, is_long_symbol, text_end, quoted, minus_front, symbol_front, front_of}
use Rattle.sql_lexer.specs.Longest.{IsWord, AreDigits, IsNumber, IsText, IsSymbol, IsToken, IsOpen, StandsBefore}
use Rattle.sql_lexer.proofs.Bytes.{is_from_quote, is_not_from_quote, is_from_minus, letter_no_white, digit_no_white, digit_no_letter, IsApart, short_apart, long_apart}
use Rattle.sql_lexer.proofs.Runs.{branch, chosen_first, chosen_second, one_and, two_and, all_in_run, run-append}
use Rattle.sql_lexer.proofs.TextEnds.{past}
use Rattle.sql_lexer.proofs.Insides.{Finds, text_end-finds, ended_text, ended_within, text_end-inside, text_end-filled}

-- what stands in front, without the claim that no longer front is a token
abbrev IsFound : List ℕ → Front → Type 0
IsFound bytes White = is_white (get_or bytes 0 0) ≡ true
IsFound bytes (Taken kind n) = (n ≤ length bytes) × IsToken kind (take n bytes)
IsFound bytes Bad = (is_white (get_or bytes 0 0) ≡ false) × (get_or bytes 0 0 ≢ 39)
IsFound bytes Open = IsOpen bytes

word_found : (b : ℕ) (rest : List ℕ) → is_first b ≡ true → IsFound (b ∷ rest) (Taken Word (1 + prefix_len is_later rest))
word_found b rest letter = rw one_and (omega (arith, prefix_len-le-length is_later rest), together (is_first b) (list_all is_later (take (prefix_len is_later rest) rest)) letter (all_in_run is_later rest))

number_found : (b : ℕ) (rest : List ℕ) → is_ascii_digit b ≡ true → IsFound (b ∷ rest) (Taken Number (1 + prefix_len is_ascii_digit rest))
number_found b rest digit =
    rw one_and (omega (arith, prefix_len-le-length is_ascii_digit rest), inl (digit, all_in_run is_ascii_digit rest))

minus_found : (b : ℕ) (rest : List ℕ) → b ≡ 45 → IsFound (b ∷ rest) (minus_front rest)
minus_found b [] minus = (rw minus refl, omega arith)
minus_found b (d ∷ rest) minus =
    branch (IsFound (b ∷ d ∷ rest)) (is_ascii_digit d) (Taken Number (2 + prefix_len is_ascii_digit rest)) Bad
    (λ digit. rw two_and (omega (arith, prefix_len-le-length is_ascii_digit rest), inr (minus, (digit, all_in_run is_ascii_digit rest))))
    (λ no_digit. (rw minus refl, omega arith))

quote_found : (b : ℕ) (rest : List ℕ) (found : Option ℕ) → b ≡ 39 → Finds rest found → IsFound (b ∷ rest) (quoted found)
quote_found b rest None quote finds = record { inside = rest; spelled = ap (λ c. c ∷ rest) quote; ends_none = finds }
quote_found b rest (Some n) quote finds = (omega (arith, ended_within rest n finds), ended_text b rest n quote finds)

symbol_found : (b : ℕ) (rest : List ℕ) → is_white b ≡ false → b ≢ 39 → IsFound (b ∷ rest) (symbol_front (b ∷ rest))
symbol_found b [] no_white no_quote =
    branch (IsFound (b ∷ [])) (is_short_symbol b) (Taken Symbol 1) Bad (λ short. (omega arith, short)) (λ none. (no_white, no_quote))
symbol_found b (c ∷ rest) no_white no_quote =
    branch (IsFound (b ∷ c ∷ rest)) (is_long_symbol b c) (Taken Symbol 2) _ (λ long. (omega arith, long))
    (λ not_long. branch (IsFound (b ∷ c ∷ rest)) (is_short_symbol b) (Taken Symbol 1) Bad
    (λ short. (omega arith, short)) (λ none. (no_white, no_quote)))

front_of-found : (bytes : List ℕ) → IsFound bytes (front_of bytes)
unfolding front_of
front_of-found [] = (refl, omega arith)
front_of-found (b ∷ rest) =
    let P : Front → Type 0 = IsFound (b ∷ rest) in
    branch P (is_white b) _ _ (λ white. white) (λ no_white.
    branch P (is_first b) _ _ (word_found b rest) (λ no_letter.
    branch P (is_ascii_digit b) _ _ (number_found b rest) (λ no_digit.
    branch P (b == 45) _ _ (λ minus. minus_found b rest (is_from_minus b minus)) (λ no_minus.
    branch P (is_quote b) _ _
    (λ quote. quote_found b rest (text_end rest) (is_from_quote b quote) (text_end-finds rest))
    (λ no_quote. symbol_found b rest no_white (is_not_from_quote b no_quote))))))

-- a word in front is taken whole
pub word_front : (text more : List ℕ) → IsWord text → front_of (text ++ more) ≡ Taken Word (length text + prefix_len is_later more)
unfolding front_of
word_front [] more word = cc
word_front (b ∷ rest) more word =
    let parts = both (is_first b) (list_all is_later rest) word in
    let count : 1 + prefix_len is_later (rest ++ more) ≡ suc (length rest) + prefix_len is_later more =
    omega (arith, run-append is_later rest more parts.1) in
    chosen_second (is_white b) White _ (letter_no_white b parts.0)
    ∙ chosen_first (is_first b) (Taken Word (1 + prefix_len is_later (rest ++ more))) _ parts.0
    ∙ ap (λ n. Taken Word n) count

digits_front : (text more : List ℕ) → AreDigits text → front_of (text ++ more) ≡ Taken Number (length text + prefix_len is_ascii_digit more)
unfolding front_of
digits_front [] more digits = absurd digits
digits_front (b ∷ rest) more digits =
    let count : 1 + prefix_len is_ascii_digit (rest ++ more) ≡ suc (length rest) + prefix_len is_ascii_digit more =
    omega (arith, run-append is_ascii_digit rest more digits.1) in
    chosen_second (is_white b) White _ (digit_no_white b digits.0)
    ∙ chosen_second (is_first b) (Taken Word (1 + prefix_len is_later (rest ++ more))) _ (digit_no_letter b digits.0)
    ∙ chosen_first (is_ascii_digit b) (Taken Number (1 + prefix_len is_ascii_digit (rest ++ more))) _ digits.0
    ∙ ap (λ n. Taken Number n) count

front_of-minus : (b : ℕ) (rest : List ℕ) → b ≡ 45 → front_of (b ∷ rest) ≡ minus_front rest
unfolding front_of
front_of-minus b rest minus = rw minus refl

minus_digits : (text more : List ℕ) → AreDigits text → minus_front (text ++ more) ≡ Taken Number (1 + length text + prefix_len is_ascii_digit more)
minus_digits [] more digits = absurd digits
minus_digits (b ∷ rest) more digits =
    let count : 2 + prefix_len is_ascii_digit (rest ++ more) ≡ 1 + suc (length rest) + prefix_len is_ascii_digit more =
    omega (arith, run-append is_ascii_digit rest more digits.1) in
    chosen_first (is_ascii_digit b) (Taken Number (2 + prefix_len is_ascii_digit (rest ++ more))) Bad digits.0 ∙ ap (λ n. Taken Number n) count

-- a number in front is taken whole
pub number_front : (text more : List ℕ) → IsNumber text → front_of (text ++ more) ≡ Taken Number (length text + prefix_len is_ascii_digit more)
number_front [] more number = absurd number
number_front (b ∷ rest) more number = by_sign number
  where
    by_sign : AreDigits (b ∷ rest) ⊎ ((b ≡ 45) × AreDigits rest)
        → front_of (b ∷ (rest ++ more)) ≡ Taken Number (suc (length rest) + prefix_len is_ascii_digit more)
    by_sign (inl digits) = digits_front (b ∷ rest) more digits
    by_sign (inr signed) =
        let count : 1 + length rest + prefix_len is_ascii_digit more ≡ suc (length rest) + prefix_len is_ascii_digit more = omega arith in
        front_of-minus b (rest ++ more) signed.0 ∙ minus_digits rest more signed.1 ∙ ap (λ n. Taken Number n) count

pub front_of-quote : (rest : List ℕ) → front_of (39 ∷ rest) ≡ quoted (text_end rest)
unfolding front_of
front_of-quote rest = refl

pub front_of-apart : (b : ℕ) (rest : List ℕ) → IsApart b → front_of (b ∷ rest) ≡ symbol_front (b ∷ rest)
unfolding front_of
front_of-apart b rest apart =
    chosen_second (is_white b) White _ apart.no_white
    ∙ chosen_second (is_first b) (Taken Word (1 + prefix_len is_later rest)) _ apart.no_letter
    ∙ chosen_second (is_ascii_digit b) (Taken Number (1 + prefix_len is_ascii_digit rest)) _ apart.no_digit
    ∙ chosen_second (b == 45) (minus_front rest) _ apart.no_minus
    ∙ chosen_second (is_quote b) (quoted (text_end rest)) (symbol_front (b ∷ rest)) apart.no_quote

-- a token of at least m bytes stands in front, or a text without its end
abbrev AtLeast : ℕ → Front → Type 0
AtLeast m White = ⊥
AtLeast m (Taken kind n) = m ≤ n
AtLeast m Bad = ⊥
AtLeast m Open = Unit {0}

quoted-at_least : (m : ℕ) (found : Option ℕ) → IfSome found (λ n. 0 < n) → AtLeast (m + 2) (quoted (past m found))
quoted-at_least m None filled = tt
quoted-at_least m (Some n) filled = omega (arith, filled)

text_whole : (text more : List ℕ) → IsText text → AtLeast (length text) (front_of (text ++ more))
text_whole text more is_text =
    let whole : text ++ more ≡ 39 ∷ (is_text.inside ++ 39 ∷ more) =
    ap (λ bytes. bytes ++ more) is_text.spelled ∙ ap (λ bytes. 39 ∷ bytes) (append_assoc is_text.inside (39 ∷ []) more) in
    let front : front_of (text ++ more) ≡ quoted (past (length is_text.inside) (text_end (39 ∷ more))) =
    ap front_of whole ∙ front_of-quote (is_text.inside ++ 39 ∷ more) ∙ ap quoted (text_end-inside is_text.inside (39 ∷ more) is_text.ends_none) in
    let long : length text ≡ length is_text.inside + 2 = omega (arith, ap length is_text.spelled, length-append is_text.inside (39 ∷ [])) in
    rw (front, long) (quoted-at_least (length is_text.inside) (text_end (39 ∷ more)) (text_end-filled (39 ∷ more)))

short_whole : (b : ℕ) (more : List ℕ) → is_short_symbol b ≡ true → AtLeast 1 (symbol_front (b ∷ more))
short_whole b [] short = rw (chosen_first (is_short_symbol b) (Taken Symbol 1) Bad short) (omega arith)
short_whole b (c ∷ more) short =
    branch (AtLeast 1) (is_long_symbol b c) (Taken Symbol 2) _ (λ long. omega arith)
    (λ not_long. rw (chosen_first (is_short_symbol b) (Taken Symbol 1) Bad short) (omega arith))

symbol_whole : (text more : List ℕ) → IsSymbol text → AtLeast (length text) (front_of (text ++ more))
symbol_whole [] more symbol = absurd symbol
symbol_whole (a ∷ []) more symbol = rw (front_of-apart a more (short_apart a symbol)) (short_whole a more symbol)
symbol_whole (a ∷ b ∷ []) more symbol =
    rw (front_of-apart a (b ∷ more) (long_apart a b symbol), chosen_first (is_long_symbol a b) (Taken Symbol 2) _ symbol) (omega arith)
symbol_whole (a ∷ b ∷ c ∷ rest) more symbol = absurd symbol

-- a token in front is taken whole, or with more
token_whole : (kind : TokenKind) (text more : List ℕ) → IsToken kind text → AtLeast (length text) (front_of (text ++ more))
token_whole Word text more word = rw (word_front text more word) (omega arith)
token_whole Number text more number = rw (number_front text more number) (omega arith)
token_whole Text text more is_text = text_whole text more is_text
token_whole Symbol text more symbol = symbol_whole text more symbol

front_whole : (bytes : List ℕ) (front : Front) (kind : TokenKind) (m : ℕ) → front ≡ front_of bytes → m ≤ length bytes
    → IsToken kind (take m bytes) → AtLeast m front
front_whole bytes front kind m is within token =
    let least : AtLeast (length (take m bytes)) (front_of (take m bytes ++ drop m bytes)) = token_whole kind (take m bytes) (drop m bytes) token in
    let same : front_of (take m bytes ++ drop m bytes) ≡ front = ap front_of (take-append-drop m bytes) ∙ sym is in
    rw (same, length-take-le m bytes within) at least

-- what stands in front is what the bytes begin with, and the longest
pub front_stands : (bytes : List ℕ) (front : Front) → front ≡ front_of bytes → StandsBefore bytes front
front_stands bytes front is = by_front front is (subst (IsFound bytes) (sym is) (front_of-found bytes))
  where
    by_front : (front : Front) → front ≡ front_of bytes → IsFound bytes front → StandsBefore bytes front
    by_front White is found = found
    by_front (Taken kind n) is found = record {
      within = found.0;
      token = found.1;
      longest = λ other m above within token.
          let least : m ≤ n = front_whole bytes (Taken kind n) other m is within token in absurd (omega arith);
    }
    by_front Bad is found = record {
      no_white = found.0;
      no_quote = found.1;
      no_token = λ kind m some within token. front_whole bytes Bad kind m is within token;
    }
    by_front Open is found = found
