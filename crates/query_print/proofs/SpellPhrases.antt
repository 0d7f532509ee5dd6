-- Texts that spell phrases: their tokens are a phrase of a value that is told, with each number within 64 bits.
use Rattle.std.proofs.Common.{◌≡◌, ℕ, suc, ◌+◌, List, [], ◌∷◌, ◌++◌, map, length, None, inl, inr, refl, ap, subst, ◌∙◌, arith, append_assoc}
use Rattle.std.specs.Prelude.{All}
use Rattle.std.specs.Option.{option_or}
use Rattle.std.proofs.lemmas.List.{append-nil}
use Rattle.std.proofs.lemmas.List.Folds.{find-append}
use Rattle.sql_lexer.specs.Lexing.{Lexeme}
use Rattle.sql_reader.specs.Phrases.{Is, Then, Or, Many}
use Rattle.sql_reader.specs.Reading.{is_wide, first_wide}
use Rattle.query_print.proofs.SpellLexing.{Any, Breaks, Lexes, lexes_none, lexes_space, lexes_both}

pub record Spells {X : Type 0} (P : X → List Lexeme → Type 0) (T : X → Type 0) (E : List ℕ → Type 0) (at : ℕ) (text : List ℕ) : Type 0 where
  pub value : X
  pub tokens : List Lexeme
  pub phrase : P value tokens
  pub told : T value
  pub in_range : first_wide tokens ≡ None
  pub lexing : Lexes E at text tokens

first_wide-append : (xs ys : List Lexeme) → first_wide xs ≡ None → first_wide ys ≡ None → first_wide (xs ++ ys) ≡ None
first_wide-append xs ys first second = find-append is_wide xs ys ∙ ap (λ o. option_or o (first_wide ys)) first ∙ second

-- the same text told in another way
pub spells_as : {X : Type 0} {P : X → List Lexeme → Type 0} {T : X → Type 0} {E : List ℕ → Type 0} {at : ℕ} (a b : List ℕ) → a ≡ b
    → Spells P T E at a → Spells P T E at b
spells_as {X} {P} {T} {E} {at} a b same spelled = subst (Spells P T E at) same spelled

-- no text
pub spells_none : {X : Type 0} {T : X → Type 0} (E : List ℕ → Type 0) (at : ℕ) (x : X) → T x → Spells (Is x) T E at []
spells_none E at x told = record {
  value = x;
  tokens = [];
  phrase = (refl, refl);
  told = told;
  in_range = refl;
  lexing = lexes_none E at;
}

-- one phrase or the other
pub spells_left : {X : Type 0} {P Q : X → List Lexeme → Type 0} {T : X → Type 0} {E : List ℕ → Type 0} {at : ℕ} {text : List ℕ}
    → Spells P T E at text → Spells (Or P Q) T E at text
spells_left spelled = record {
  value = spelled.value;
  tokens = spelled.tokens;
  phrase = inl spelled.phrase;
  told = spelled.told;
  in_range = spelled.in_range;
  lexing = spelled.lexing;
}

pub spells_right : {X : Type 0} {P Q : X → List Lexeme → Type 0} {T : X → Type 0} {E : List ℕ → Type 0} {at : ℕ} {text : List ℕ}
    → Spells Q T E at text → Spells (Or P Q) T E at text
spells_right spelled = record {
  value = spelled.value;
  tokens = spelled.tokens;
  phrase = inr spelled.phrase;
  told = spelled.told;
  in_range = spelled.in_range;
  lexing = spelled.lexing;
}

-- a space before
pub spells_space : {X : Type 0} {P : X → List Lexeme → Type 0} {T : X → Type 0} {E : List ℕ → Type 0} {at : ℕ} {text : List ℕ}
    → Spells P T E (at + 1) text → Spells P T E at (32 ∷ text)
spells_space {X} {P} {T} {E} {at} {text} spelled = record {
  value = spelled.value;
  tokens = spelled.tokens;
  phrase = spelled.phrase;
  told = spelled.told;
  in_range = spelled.in_range;
  lexing = lexes_space E at text spelled.tokens spelled.lexing;
}

-- a space behind
pub spells_apart : {X : Type 0} {P : X → List Lexeme → Type 0} {T : X → Type 0} {E : List ℕ → Type 0} {at : ℕ} (text : List ℕ)
    → ((more : List ℕ) → E (32 ∷ more)) → Spells P T E at text → Spells P T Any at (text ++ 32 ∷ [])
spells_apart {X} {P} {T} {E} {at} text ends spelled = record {
  value = spelled.value;
  tokens = spelled.tokens;
  phrase = spelled.phrase;
  told = spelled.told;
  in_range = spelled.in_range;
  lexing = subst (Lexes Any at (text ++ 32 ∷ [])) (append-nil spelled.tokens)
      (lexes_both E Any at text (32 ∷ []) spelled.tokens [] spelled.lexing
      (lexes_space Any (at + length text) [] [] (lexes_none Any (at + length text + 1))) (λ more any. ends more));
}

-- what may stand before anything may stand before what ends a token
pub ends_breaking : {X : Type 0} {P : X → List Lexeme → Type 0} {T : X → Type 0} {at : ℕ} {text : List ℕ}
    → Spells P T Any at text → Spells P T Breaks at text
ends_breaking {X} {P} {T} {at} {text} spelled = record {
  value = spelled.value;
  tokens = spelled.tokens;
  phrase = spelled.phrase;
  told = spelled.told;
  in_range = spelled.in_range;
  lexing = record { lexes = λ more ends. spelled.lexing.lexes more tt };
}

-- a phrase, and then another
pub spells_then : {X Y : Type 0} {P : X → List Lexeme → Type 0} {Q : X → Y → List Lexeme → Type 0} {S : X → Type 0} {T : Y → Type 0}
    {E F : List ℕ → Type 0} {at : ℕ} (a b : List ℕ) → Spells P S E at a → ((x : X) → S x → Spells (Q x) T F (at + length a) b)
    → ((more : List ℕ) → F more → E (b ++ more)) → Spells (Then P Q) T F at (a ++ b)
spells_then {X} {Y} {P} {Q} {S} {T} {E} {F} {at} a b first next meets =
    let second : Spells (Q first.value) T F (at + length a) b = next first.value first.told in
    record {
      value = second.value;
      tokens = first.tokens ++ second.tokens;
      phrase = record {
        value = first.value;
        front = first.tokens;
        rest = second.tokens;
        joined = refl;
        first = first.phrase;
        second = second.phrase;
      };
      told = second.told;
      in_range = first_wide-append first.tokens second.tokens first.in_range second.in_range;
      lexing = lexes_both E F at a b first.tokens second.tokens first.lexing second.lexing meets;
    }

-- a phrase, and then one that has no text
pub spells_end : {X Y : Type 0} {P : X → List Lexeme → Type 0} {Q : X → Y → List Lexeme → Type 0} {S : X → Type 0} {T : Y → Type 0}
    {E : List ℕ → Type 0} {at : ℕ} (a : List ℕ) → Spells P S E at a → ((x : X) → S x → Spells (Q x) T E (at + length a) [])
    → Spells (Then P Q) T E at a
spells_end a first next = spells_as (a ++ []) a (append-nil a) (spells_then a [] first next (λ more ends. ends))

-- a phrase whose value makes another
pub spells_last : {X Y : Type 0} {P : X → List Lexeme → Type 0} {S : X → Type 0} {T : Y → Type 0} {E : List ℕ → Type 0} {at : ℕ} (f : X → Y)
    (a : List ℕ) → Spells P S E at a → ((x : X) → S x → T (f x)) → Spells (Then P (λ x. Is (f x))) T E at a
spells_last {X} {Y} {P} {S} {T} {E} {at} f a first tells = spells_end a first (λ x told. spells_none E (at + length a) (f x) (tells x told))

-- the texts of a list, one behind the other
abbrev pub joined : {X : Type 0} → (X → List ℕ) → List X → List ℕ
joined text [] = []
joined text (x ∷ xs) = text x ++ joined text xs

pub joined-breaks : {X : Type 0} (text : X → List ℕ) → ((x : X) (more : List ℕ) → Breaks (text x ++ more))
    → (xs : List X) (more : List ℕ) → Breaks more → Breaks (joined text xs ++ more)
joined-breaks text breaks [] more ends = ends
joined-breaks text breaks (x ∷ xs) more ends = rw (append_assoc (text x) (joined text xs) more) (breaks x (joined text xs ++ more))

pub all_head : {X : Type 0} (Ok : X → Type 0) (x : X) (xs : List X) → All Ok (x ∷ xs) → Ok x
all_head Ok x xs all = all 0 x (omega arith)

pub all_tail : {X : Type 0} (Ok : X → Type 0) (x : X) (xs : List X) → All Ok (x ∷ xs) → All Ok xs
all_tail Ok x xs all = λ k d below. all (suc k) d (omega arith)

-- any number of phrases
pub spells_many : {X : Type 0} {P : X → List Lexeme → Type 0} (forget : X → X) (text : X → List ℕ) (Good : X → Type 0)
    → ((x : X) (more : List ℕ) → Breaks (text x ++ more))
    → ((x : X) → Good x → (at : ℕ) → Spells P (λ y. forget y ≡ forget x) Breaks at (text x))
    → (xs : List X) → All Good xs → (at : ℕ) → Spells (Many P) (λ ys. map forget ys ≡ map forget xs) Breaks at (joined text xs)
spells_many forget text Good breaks each [] good at = record {
  value = [];
  tokens = [];
  phrase = refl;
  told = refl;
  in_range = refl;
  lexing = lexes_none Breaks at;
}
spells_many {X} {P} forget text Good breaks each (x ∷ xs) good at =
    let first : Spells P (λ y. forget y ≡ forget x) Breaks at (text x) = each x (all_head Good x xs good) at in
    let later : Spells (Many P) (λ ys. map forget ys ≡ map forget xs) Breaks (at + length (text x)) (joined text xs) =
    spells_many forget text Good breaks each xs (all_tail Good x xs good) (at + length (text x)) in
    record {
      value = first.value ∷ later.value;
      tokens = first.tokens ++ later.tokens;
      phrase = record {
        front = first.tokens;
        rest = later.tokens;
        joined = refl;
        first = first.phrase;
        second = later.phrase;
      };
      told = ap (λ y. y ∷ map forget later.value) first.told ∙ ap (λ ys. forget x ∷ ys) later.told;
      in_range = first_wide-append first.tokens later.tokens first.in_range later.in_range;
      lexing = lexes_both Breaks Breaks at (text x) (joined text xs) first.tokens later.tokens first.lexing later.lexing
          (joined-breaks text breaks xs);
    }
