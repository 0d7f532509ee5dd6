-- Which queries can be written. docs/FORMATS.md, "Query", tells it in prose.
use Rattle.std.specs.Prelude.{◌≡◌, ℕ, ◌≤◌, true, List, [], length, All, IfSome, None, slice_get}
use Rattle.word_forms.specs.Keywords.{keyword_of}
use Rattle.word_forms.specs.Words.{is_word}
use Rattle.sql_lexer.specs.Longest.{IsInside}
use Rattle.sql_reader.specs.Syntax.{Column, Literal, Number, Text, Side, Col, Lit, Condition, Item, Plain, Aggregate, Count, Source, Having, Query}

-- a word that is no keyword
pub record IsName (text : List ℕ) : Type 0 where
  pub word : is_word text ≡ true
  pub no_keyword : keyword_of text ≡ None

-- a column whose words are names
pub record IsNamed (c : Column) : Type 0 where
  pub name : IsName c.name
  pub table : IfSome c.table IsName

-- a literal that is a number, or a text in which quotes stand only in pairs
abbrev pub IsPaired : Literal → Type 0
IsPaired (Number value) = Unit {0}
IsPaired (Text inside) = IsInside inside

abbrev pub IsWritableSide : Side → Type 0
IsWritableSide (Col c) = IsNamed c
IsWritableSide (Lit l) = IsPaired l

pub record IsWritableCondition (c : Condition) : Type 0 where
  pub left : IsNamed c.left
  pub right : IsWritableSide c.right

abbrev pub IsWritableItem : Item → Type 0
IsWritableItem (Plain c) = IsNamed c
IsWritableItem (Aggregate func c at) = IsNamed c
IsWritableItem (Count at) = Unit {0}

pub record IsWritableSource (s : Source) : Type 0 where
  pub table : IsName s.table
  pub on : All IsWritableCondition s.on

-- a function over a column, or the count
abbrev pub IsAnAggregate : Item → Type 0
IsAnAggregate (Plain c) = ⊥
IsAnAggregate (Aggregate func c at) = Unit {0}
IsAnAggregate (Count at) = Unit {0}

pub record IsWritableHaving (h : Having) : Type 0 where
  pub aggregate : IsAnAggregate h.item
  pub item : IsWritableItem h.item
  pub literal : IsPaired h.literal

-- a query that can be written: its names are words that are no keywords, its texts hold quotes only in pairs, it has an
-- item and a source, the first source has no conditions, HAVING stands only beside a group, and each item of HAVING
-- is a function over a column or the count
pub record IsWritable (q : Query) : Type 0 where
  pub some_item : 1 ≤ length q.items
  pub items : All IsWritableItem q.items
  pub some_source : 1 ≤ length q.sources
  pub sources : All IsWritableSource q.sources
  pub first_alone : IfSome (slice_get q.sources 0) (λ s. s.on ≡ [])
  pub conds : All IsWritableCondition q.conds
  pub group : All IsNamed q.group
  pub having : All IsWritableHaving q.having
  pub grouped : q.group ≡ [] → q.having ≡ []
