-- The law of the grammar, for every list of tokens: what is read is a query and the only one, a query is read, and where
-- none is read, the place is that of the first token with which the tokens so far begin no query.
use Rattle.std.specs.Prelude.{◌≡◌, ℕ, List, [], ◌∷◌, ◌++◌, Option, Some, None}
use Rattle.sql_lexer.specs.Lexing.{Lexeme}
use Rattle.sql_reader.specs.Syntax.{Query}
use Rattle.sql_reader.specs.Grammar.{query, IsQuery}
use Rattle.sql_reader.specs.Readers.{Reading, Took, Stuck}
use Rattle.sql_reader.specs.Reading.{IsOnlyQuery, BeginsQuery, IsStuck}

-- the place of the first token, where there is one
abbrev pub place_in : List Lexeme → Option ℕ
place_in [] = None
place_in (t ∷ ts) = Some t.at

-- the tokens up to the place begin a query, and with the one that stands there they begin none; or all of them begin a
-- query and are none
pub record AreStuck (ts : List Lexeme) (place : Option ℕ) : Type 0 where
  pub front : List Lexeme
  pub rest : List Lexeme
  pub joined : ts ≡ front ++ rest
  pub spot : place ≡ place_in rest
  pub begins : BeginsQuery front
  pub stuck : IsStuck front rest

-- what the tokens are, where they are read so
abbrev pub IsReadingOf : List Lexeme → Reading Query → Type 0
IsReadingOf ts (Took q []) = IsOnlyQuery q ts
IsReadingOf ts (Took q (t ∷ rest)) = AreStuck ts (Some t.at)
IsReadingOf ts (Stuck place) = AreStuck ts place

-- each list of tokens is what it is read as
abbrev pub ReadsRight : Type 0
ReadsRight = (ts : List Lexeme) → IsReadingOf ts (query.read ts)

-- each query is read from its tokens, with none left
abbrev pub ReadsEach : Type 0
ReadsEach = (q : Query) (ts : List Lexeme) → IsQuery q ts → query.read ts ≡ Took q []

-- no list of tokens spells two queries
abbrev pub ReadsOnce : Type 0
ReadsOnce = (q other : Query) (ts : List Lexeme) → IsQuery q ts → IsQuery other ts → other ≡ q
