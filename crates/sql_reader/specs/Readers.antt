-- Readers: functions that take a phrase from the front of a list of tokens, deciding by one token of look-ahead, and the
-- ways to put them together. They know no query.
use Rattle.std.specs.Prelude.{ℕ, zero, suc, Bool, false, List, [], ◌∷◌, length, Option, Some, None, if◌then◌else◌}
use Rattle.sql_lexer.specs.Lexing.{Lexeme}

-- what a reader makes of a list of tokens: a value and the tokens behind its phrase; or the place of the first token
-- with which no phrase goes on, and none where the tokens end before a phrase does
pub data Reading (X : Type 0) : Type 0 where
  Took : (value : X) → (rest : List Lexeme) → Reading X
  Stuck : (place : Option ℕ) → Reading X

-- whether there is a first token that passes the test
abbrev pub next_is : (Lexeme → Bool) → List Lexeme → Bool
next_is test [] = false
next_is test (t ∷ ts) = test t

-- no token
abbrev pub give : {X : Type 0} → X → List Lexeme → Reading X
give x ts = Took x ts

-- one token that the function takes
abbrev pub taken : {X : Type 0} → Option X → ℕ → List Lexeme → Reading X
taken (Some x) at rest = Took x rest
taken None at rest = Stuck (Some at)

abbrev pub one : {X : Type 0} → (Lexeme → Option X) → List Lexeme → Reading X
one take [] = Stuck None
one take (t ∷ ts) = taken (take t) t.at ts

-- a phrase, and behind it another that may depend on its value
abbrev pub and_then : {X Y : Type 0} → (X → List Lexeme → Reading Y) → Reading X → Reading Y
and_then q (Took x rest) = q x rest
and_then q (Stuck place) = Stuck place

abbrev pub bind : {X Y : Type 0} → (List Lexeme → Reading X) → (X → List Lexeme → Reading Y) → List Lexeme → Reading Y
bind p q ts = and_then q (p ts)

-- the first phrase where the first token passes the test, and the second where it does not
abbrev pub alt : {X : Type 0} → (Lexeme → Bool) → (List Lexeme → Reading X) → (List Lexeme → Reading X) → List Lexeme → Reading X
alt test p q ts = if next_is test ts then p ts else q ts

-- phrases, one behind the other, as long as the next token passes the test, and at most so many
abbrev pub many_within : {X : Type 0} → ℕ → (Lexeme → Bool) → (List Lexeme → Reading X) → List Lexeme → Reading (List X)
many_within zero test p = give []
many_within (suc n) test p = alt test (bind p (λ x. bind (many_within n test p) (λ xs. give (x ∷ xs)))) (give [])

-- as many as there are
unfoldable pub many : {X : Type 0} → (Lexeme → Bool) → (List Lexeme → Reading X) → List Lexeme → Reading (List X)
many test p ts = many_within (length ts) test p ts
