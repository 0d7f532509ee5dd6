-- Where tokens stand in their text. docs/FORMATS.md, "Query", tells it in prose.
use Rattle.std.specs.Prelude.{◌≡◌, ℕ, ◌+◌, ◌<◌, ◌≤◌, List, [], ◌∷◌, length, take, drop, map, All}
use Rattle.sql_lexer.specs.declared.token.Token.{Token}
use Rattle.sql_lexer.specs.Lexing.{Lexeme, lexeme}

-- the token's text is the slice of the source that begins at its place
abbrev pub IsSliceOf : List ℕ → Lexeme → Type 0
IsSliceOf source x = take (length x.text) (drop x.at source) ≡ x.text

-- the token has at least one byte
abbrev pub IsFilled : Lexeme → Type 0
IsFilled x = 0 < length x.text

-- no token begins before this place, nor before the end of the one that it follows
abbrev pub AreApart : ℕ → List Lexeme → Type 0
AreApart from [] = Unit {0}
AreApart from (x ∷ xs) = (from ≤ x.at) × AreApart (x.at + length x.text) xs

-- the tokens are slices of the source, none empty, in the order of their places, and no two overlap
pub record AreSlices (source : List ℕ) (ts : List Token) : Type 0 where
  pub slices : All (IsSliceOf source) (map lexeme ts)
  pub filled : All IsFilled (map lexeme ts)
  pub apart : AreApart 0 (map lexeme ts)
