-- Queries but for the places of their words: what reading a printed query gives back. docs/FORMATS.md, "Query", tells it.
use Rattle.std.specs.Prelude.{◌≡◌, ℕ, List, map}
use Rattle.sql_reader.specs.Syntax.{Column, Side, Col, Lit, Condition, Item, Plain, Aggregate, Count, Source, Having, Query}
use Rattle.sql_reader.specs.Reading.{IsQueryOf}

-- the same with every place at 0
abbrev pub placeless_column : Column → Column
placeless_column c = record c { at = 0 }

abbrev pub placeless_side : Side → Side
placeless_side (Col c) = Col (placeless_column c)
placeless_side (Lit l) = Lit l

abbrev pub placeless_condition : Condition → Condition
placeless_condition c = record { left = placeless_column c.left; op = c.op; right = placeless_side c.right }

abbrev pub placeless_item : Item → Item
placeless_item (Plain c) = Plain (placeless_column c)
placeless_item (Aggregate func c at) = Aggregate func (placeless_column c) 0
placeless_item (Count at) = Count 0

abbrev pub placeless_source : Source → Source
placeless_source s = record { table = s.table; at = 0; on = map placeless_condition s.on }

abbrev pub placeless_having : Having → Having
placeless_having h = record { item = placeless_item h.item; op = h.op; literal = h.literal }

abbrev pub placeless : Query → Query
placeless q = record {
  items = map placeless_item q.items;
  sources = map placeless_source q.sources;
  conds = map placeless_condition q.conds;
  group = map placeless_column q.group;
  having = map placeless_having q.having;
}

-- the text reads as this query but for places
pub record ReadsBack (q : Query) (text : List ℕ) : Type 0 where
  pub read : Query
  pub is_read : IsQueryOf text read
  pub same : placeless read ≡ placeless q
