-- Phrases: relations between a value and the tokens that spell it, and the ways to put them together. It knows no
-- query. docs/FORMATS.md, "Query", has the grammar that is made of them.
use Rattle.std.specs.Prelude.{◌≡◌, ◌⊎◌, List, [], ◌∷◌, ◌++◌, Option, Some}
use Rattle.sql_lexer.specs.Lexing.{Lexeme}

-- no token, which spells this value alone
abbrev pub Is : {X : Type 0} → X → X → List Lexeme → Type 0
Is wanted x ts = (x ≡ wanted) × (ts ≡ [])

-- one token that the function takes, which spells what the function makes of it
abbrev pub One : {X : Type 0} → (Lexeme → Option X) → X → List Lexeme → Type 0
One take x ts = (t : Lexeme) × (ts ≡ t ∷ []) × (take t ≡ Some x)

-- a phrase, and behind it another that may depend on its value
pub record Then {X Y : Type 0} (P : X → List Lexeme → Type 0) (Q : X → Y → List Lexeme → Type 0) (y : Y) (ts : List Lexeme) : Type 0 where
  pub value : X
  pub front : List Lexeme
  pub rest : List Lexeme
  pub joined : ts ≡ front ++ rest
  pub first : P value front
  pub second : Q value y rest

-- one phrase or the other
abbrev pub Or : {X : Type 0} → (X → List Lexeme → Type 0) → (X → List Lexeme → Type 0) → X → List Lexeme → Type 0
Or P Q x ts = P x ts ⊎ Q x ts

-- a phrase, and then phrases
pub record Before (P : List Lexeme → Type 0) (Q : List Lexeme → Type 0) (ts : List Lexeme) : Type 0 where
  pub front : List Lexeme
  pub rest : List Lexeme
  pub joined : ts ≡ front ++ rest
  pub first : P front
  pub second : Q rest

-- any number of phrases, one behind the other, for the list of their values
abbrev pub Many : {X : Type 0} → (X → List Lexeme → Type 0) → List X → List Lexeme → Type 0
Many P [] ts = ts ≡ []
Many P (x ∷ xs) ts = Before (P x) (Many P xs) ts
