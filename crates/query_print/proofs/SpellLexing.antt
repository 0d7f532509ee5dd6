-- What the tokens of a part of a text are, whatever stands behind it.
use Rattle.std.proofs.Common.{◌≡◌, ℕ, ◌+◌, ◌<◌, ◌==◌, ◌||◌, Bool, true, false, List, [], ◌∷◌, ◌++◌, length, Result, Ok, Err, refl, sym, ap, ◌∙◌, arith, append_assoc, length-append, add-zero}
use Rattle.std.specs.Char.{is_ascii_digit}
use Rattle.std.proofs.lemmas.Bool.Decides.{nat_tests}
use Rattle.sql_lexer.specs.declared.token.TokenKind.{TokenKind}
use Rattle.mq_base.specs.declared.refusal.Refusal.{Refusal}
use Rattle.sql_lexer.specs.declared.fronts.Front.TheVariants.{White, Taken}
use Rattle.word_forms.specs.Words.{is_later}
use Rattle.sql_lexer.specs.Lexing.{is_quote, front_of, Lexeme, lexed_from, with_first}
use Rattle.sql_lexer.proofs.Steps.{lexed_from-white}
use Rattle.sql_lexer.proofs.Turns.{behind}
use Rattle.sql_lexer.proofs.TokenFronts.{Stops, lexed_from-alone}

-- anything may stand behind
abbrev pub Any : List ℕ → Type 0
Any more = Unit {0}

-- what may stand behind a word, a number or a text: a space, `.`, `(`, `)` or `,`
abbrev pub is_break : ℕ → Bool
is_break b = b == 32 || b == 46 || b == 40 || b == 41 || b == 44

-- nothing stands behind, or a byte that ends words, numbers and texts
abbrev pub Breaks : List ℕ → Type 0
Breaks [] = Unit {0}
Breaks (b ∷ rest) = is_break b ≡ true

break_no_word : (b : ℕ) → is_break b ≡ true → is_later b ≡ false
break_no_word b breaks = grind (arith, nat_tests)

break_no_digit : (b : ℕ) → is_break b ≡ true → is_ascii_digit b ≡ false
break_no_digit b breaks = grind (arith, nat_tests)

break_no_quote : (b : ℕ) → is_break b ≡ true → is_quote b ≡ false
break_no_quote b breaks = grind (arith, nat_tests)

pub breaks_words : (more : List ℕ) → Breaks more → Stops is_later more
breaks_words [] breaks = tt
breaks_words (b ∷ rest) breaks = break_no_word b breaks

pub breaks_digits : (more : List ℕ) → Breaks more → Stops is_ascii_digit more
breaks_digits [] breaks = tt
breaks_digits (b ∷ rest) breaks = break_no_digit b breaks

pub breaks_texts : (more : List ℕ) → Breaks more → Stops is_quote more
breaks_texts [] breaks = tt
breaks_texts (b ∷ rest) breaks = break_no_quote b breaks

-- the text has these tokens, the first byte of it at this place, where what stands behind it is as told
pub record Lexes (E : List ℕ → Type 0) (at : ℕ) (text : List ℕ) (tokens : List Lexeme) : Type 0 where
  pub lexes : (more : List ℕ) → E more → lexed_from 0 at (text ++ more) ≡ behind tokens (lexed_from 0 (at + length text) more)

behind-nothing : (r : Result (List Lexeme) Refusal) → behind [] r ≡ r
behind-nothing (Ok xs) = refl
behind-nothing (Err e) = refl

behind-one : (x : Lexeme) (r : Result (List Lexeme) Refusal) → with_first x r ≡ behind (x ∷ []) r
behind-one x (Ok xs) = refl
behind-one x (Err e) = refl

behind-behind : (xs ys : List Lexeme) (r : Result (List Lexeme) Refusal) → behind xs (behind ys r) ≡ behind (xs ++ ys) r
behind-behind xs ys (Ok zs) = ap (λ (ts : List Lexeme). Ok ts) (sym (append_assoc xs ys zs))
behind-behind xs ys (Err e) = refl

-- no text has no token
pub lexes_none : (E : List ℕ → Type 0) (at : ℕ) → Lexes E at [] []
lexes_none E at = record {
  lexes = λ more ends. ap (λ place. lexed_from 0 place more) (sym (add-zero at)) ∙ sym (behind-nothing (lexed_from 0 (at + 0) more));
}

-- one token
pub lexes_one : (E : List ℕ → Type 0) (at : ℕ) (kind : TokenKind) (text : List ℕ) → 0 < length text
    → ((more : List ℕ) → E more → front_of (text ++ more) ≡ Taken kind (length text))
    → Lexes E at text (record { kind = kind; text = text; at = at } ∷ [])
lexes_one E at kind text filled front = record {
  lexes = λ more ends. lexed_from-alone at kind text more (front more ends) filled ∙ behind-one _ (lexed_from 0 (at + length text) more);
}

front_of-space : (more : List ℕ) → front_of (32 ∷ more) ≡ White
unfolding front_of
front_of-space more = refl

-- a space before a text
pub lexes_space : (E : List ℕ → Type 0) (at : ℕ) (text : List ℕ) (xs : List Lexeme) → Lexes E (at + 1) text xs → Lexes E at (32 ∷ text) xs
lexes_space E at text xs lexing = record {
  lexes = λ more ends.
      let place : at + 1 + length text ≡ at + length (32 ∷ text) = omega arith in
      lexed_from-white at (32 ∷ (text ++ more)) (front_of-space (text ++ more)) (omega arith) ∙ lexing.lexes more ends
      ∙ ap (λ p. behind xs (lexed_from 0 p more)) place;
}

-- a text behind a text
pub lexes_both : (E F : List ℕ → Type 0) (at : ℕ) (a b : List ℕ) (xs ys : List Lexeme) → Lexes E at a xs → Lexes F (at + length a) b ys
    → ((more : List ℕ) → F more → E (b ++ more)) → Lexes F at (a ++ b) (xs ++ ys)
lexes_both E F at a b xs ys first second meets = record {
  lexes = λ more ends.
      let place : at + length a + length b ≡ at + length (a ++ b) = omega (arith, length-append a b) in
      ap (lexed_from 0 at) (append_assoc a b more) ∙ first.lexes (b ++ more) (meets more ends)
      ∙ ap (behind xs) (second.lexes more ends) ∙ behind-behind xs ys (lexed_from 0 (at + length a + length b) more)
      ∙ ap (λ p. behind (xs ++ ys) (lexed_from 0 p more)) place;
}
