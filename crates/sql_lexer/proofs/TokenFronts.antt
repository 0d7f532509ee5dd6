-- A token in front of what ends it is taken alone, and then what is behind it.
use Rattle.std.proofs.Common.{◌≡◌, ℕ, ◌+◌, ◌<◌, Bool, true, false, List, [], ◌∷◌, ◌++◌, length, drop, Some, refl, ap, ◌∙◌, arith, append_assoc, length-append}
use Rattle.std.specs.List.{prefix_len}
use Rattle.std.specs.Char.{is_ascii_digit}
use Rattle.std.proofs.lemmas.List.{take_at, drop_at}
use Rattle.sql_lexer.specs.declared.token.TokenKind.{TokenKind}
use Rattle.sql_lexer.specs.declared.token.TokenKind.TheVariants.{Word, Number, Text, Symbol}
use Rattle.sql_lexer.specs.declared.fronts.Front.TheVariants.{Taken, Bad}
use Rattle.word_forms.specs.Words.{is_later}
use Rattle.sql_lexer.specs.Lexing.{is_quote, is_short_symbol, is_long_symbol, text_end, quoted, symbol_front, front_of, lexed_from, with_first}
use Rattle.sql_lexer.specs.Longest.{IsWord, IsNumber, IsInside}
use Rattle.sql_lexer.proofs.Bytes.{short_apart, long_apart}
use Rattle.sql_lexer.proofs.Runs.{chosen_first, chosen_second}
use Rattle.sql_lexer.proofs.TextEnds.{past}
use Rattle.sql_lexer.proofs.Insides.{text_end-inside}
use Rattle.sql_lexer.proofs.LongestLaws.{word_front, number_front, front_of-quote, front_of-apart}
use Rattle.sql_lexer.proofs.Steps.{lexed_from-taken}

-- the first of the bytes, where there is one, does not pass the test
abbrev pub Stops : (ℕ → Bool) → List ℕ → Type 0
Stops test [] = Unit {0}
Stops test (b ∷ rest) = test b ≡ false

prefix_len-stops : (test : ℕ → Bool) (more : List ℕ) → Stops test more → prefix_len test more ≡ 0
prefix_len-stops test [] stops = refl
prefix_len-stops test (b ∷ rest) stops = rw stops refl

-- a word in front of a byte that goes on with none
pub word_alone : (text more : List ℕ) → IsWord text → Stops is_later more → front_of (text ++ more) ≡ Taken Word (length text)
word_alone text more word stops =
    let count : length text + prefix_len is_later more ≡ length text = omega (arith, prefix_len-stops is_later more stops) in
    word_front text more word ∙ ap (λ n. Taken Word n) count

-- a number in front of no digit
pub number_alone : (text more : List ℕ) → IsNumber text → Stops is_ascii_digit more → front_of (text ++ more) ≡ Taken Number (length text)
number_alone text more number stops =
    let count : length text + prefix_len is_ascii_digit more ≡ length text = omega (arith, prefix_len-stops is_ascii_digit more stops) in
    number_front text more number ∙ ap (λ n. Taken Number n) count

text_end-alone : (more : List ℕ) → Stops is_quote more → text_end (39 ∷ more) ≡ Some 1
text_end-alone [] stops = refl
text_end-alone (b ∷ rest) stops = rw stops refl

-- a text in quotes in front of no quote
pub text_alone : (inside more : List ℕ) → IsInside inside → Stops is_quote more
    → front_of ((39 ∷ (inside ++ 39 ∷ [])) ++ more) ≡ Taken Text (length (39 ∷ (inside ++ 39 ∷ [])))
text_alone inside more ends_none stops =
    let count : 1 + (length inside + 1) ≡ length (39 ∷ (inside ++ 39 ∷ [])) = omega (arith, length-append inside (39 ∷ [])) in
    ap (λ bytes. front_of (39 ∷ bytes)) (append_assoc inside (39 ∷ []) more) ∙ front_of-quote (inside ++ 39 ∷ more)
    ∙ ap quoted (text_end-inside inside (39 ∷ more) ends_none ∙ ap (past (length inside)) (text_end-alone more stops))
    ∙ ap (λ n. Taken Text n) count

symbol_front-alone : (b : ℕ) (more : List ℕ) → is_short_symbol b ≡ true → Stops (is_long_symbol b) more
    → symbol_front (b ∷ more) ≡ Taken Symbol 1
symbol_front-alone b [] short stops = chosen_first (is_short_symbol b) (Taken Symbol 1) Bad short
symbol_front-alone b (c ∷ rest) short stops =
    chosen_second (is_long_symbol b c) (Taken Symbol 2) _ stops ∙ chosen_first (is_short_symbol b) (Taken Symbol 1) Bad short

-- a symbol of one byte in front of a byte that makes it no longer
pub short_alone : (b : ℕ) (more : List ℕ) → is_short_symbol b ≡ true → Stops (is_long_symbol b) more
    → front_of (b ∷ more) ≡ Taken Symbol 1
short_alone b more short stops = front_of-apart b more (short_apart b short) ∙ symbol_front-alone b more short stops

-- a symbol of two bytes, whatever stands behind it
pub long_alone : (a b : ℕ) (more : List ℕ) → is_long_symbol a b ≡ true → front_of (a ∷ b ∷ more) ≡ Taken Symbol 2
long_alone a b more long =
    front_of-apart a (b ∷ more) (long_apart a b long) ∙ chosen_first (is_long_symbol a b) (Taken Symbol 2) _ long

-- a token that is taken alone is followed by the tokens of what is behind it
pub lexed_from-alone : (at : ℕ) (kind : TokenKind) (text more : List ℕ) → front_of (text ++ more) ≡ Taken kind (length text) → 0 < length text
    → lexed_from 0 at (text ++ more)
    ≡ with_first (record { kind = kind; text = text; at = at }) (lexed_from 0 (at + length text) more)
lexed_from-alone at kind text more front filled =
    lexed_from-taken at (text ++ more) kind (length text) front filled (omega (arith, length-append text more))
    ∙ ap (λ bytes. with_first (record { kind = kind; text = bytes; at = at }) (lexed_from 0 (at + length text) (drop (length text) (text ++ more))))
    (take_at text more (length text) refl)
    ∙ ap (λ bytes. with_first (record { kind = kind; text = text; at = at }) (lexed_from 0 (at + length text) bytes)) (drop_at text more (length text) refl)
