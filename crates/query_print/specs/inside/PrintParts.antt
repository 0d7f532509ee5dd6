-- What the parts of the printing say of their own: the text of a clause, and that numbers are within 64 bits.
-- docs/FORMATS.md, "Query", tells of both in prose.
use Rattle.std.specs.Prelude.{◌≡◌, ℕ, true, List, [], ◌∷◌, ◌++◌, All}
use Rattle.base_laws.specs.Ranges.{fits_64_bits}
use Rattle.sql_reader.specs.Syntax.{Literal, Number, Text, Side, Col, Lit, Condition, Source, Having, Query}
use Rattle.query_print.specs.Spelling.{separated}

-- texts one behind the other, with a separator before each
abbrev pub followed : List ℕ → List (List ℕ) → List ℕ
followed separator [] = []
followed separator (x ∷ xs) = separator ++ x ++ followed separator xs

-- a clause: nothing where it has no item, or else its word and its items with a separator between each two
abbrev pub clause_text : List ℕ → List ℕ → List (List ℕ) → List ℕ
clause_text word separator [] = []
clause_text word separator (x ∷ xs) = word ++ separated separator (x ∷ xs)

-- a literal that is no number, or a number within 64 bits
abbrev pub IsInRange : Literal → Type 0
IsInRange (Number value) = fits_64_bits value ≡ true
IsInRange (Text inside) = Unit {0}

abbrev pub IsSideInRange : Side → Type 0
IsSideInRange (Col c) = Unit {0}
IsSideInRange (Lit l) = IsInRange l

pub record IsConditionInRange (c : Condition) : Type 0 where
  pub right : IsSideInRange c.right

pub record IsSourceInRange (s : Source) : Type 0 where
  pub on : All IsConditionInRange s.on

pub record IsHavingInRange (h : Having) : Type 0 where
  pub literal : IsInRange h.literal

-- each number of the query is within 64 bits
pub record IsQueryInRange (q : Query) : Type 0 where
  pub sources : All IsSourceInRange q.sources
  pub conds : All IsConditionInRange q.conds
  pub having : All IsHavingInRange q.having
