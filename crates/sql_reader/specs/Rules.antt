-- Rules: a production of a grammar stands once, for what it spells and for how it is read, and each word that puts rules
-- together builds both at once. It knows no query.
use Rattle.std.specs.Prelude.{Bool, List, ◌∷◌, Option}
use Rattle.sql_lexer.specs.Lexing.{Lexeme}
use Rattle.sql_reader.specs.Phrases.{Is, One, Then, Or, Many}
use Rattle.sql_reader.specs.Readers.{Reading, give, one, bind, alt, many}

-- which tokens spell which value, and what is read from the front of tokens
pub record Rule (X : Type 0) : Type 1 where
  pub spells : X → List Lexeme → Type 0
  pub read : List Lexeme → Reading X

-- no token, for this value
abbrev pub always : {X : Type 0} → X → Rule X
always x = record { spells = Is x; read = give x }

-- one token that the function takes
abbrev pub token : {X : Type 0} → (Lexeme → Option X) → Rule X
token take = record { spells = One take; read = one take }

-- one rule, and behind it another that may depend on its value
abbrev pub chain : {X Y : Type 0} → Rule X → (X → Rule Y) → Rule Y
chain p q = record { spells = Then p.spells (λ x. (q x).spells); read = bind p.read (λ x. (q x).read) }

-- one rule or the other: where it is read, the first token decides
abbrev pub either : {X : Type 0} → (Lexeme → Bool) → Rule X → Rule X → Rule X
either first p q = record { spells = Or p.spells q.spells; read = alt first p.read q.read }

-- a rule any number of times: where it is read, the first token decides on each
abbrev pub repeated : {X : Type 0} → (Lexeme → Bool) → Rule X → Rule (List X)
repeated first p = record { spells = Many p.spells; read = many first p.read }

-- a rule, and then another any number of times
abbrev pub several : {X : Type 0} → Rule X → (Lexeme → Bool) → Rule X → Rule (List X)
several p first q = chain p (λ x. chain (repeated first q) (λ xs. always (x ∷ xs)))
