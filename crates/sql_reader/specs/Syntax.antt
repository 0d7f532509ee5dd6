-- A query as its text gives it, in plain values: names and texts are lists of bytes, and places are counted in bytes
-- from 0. docs/FORMATS.md, "Query", tells it in prose.
use Rattle.std.specs.Prelude.{ℕ, ℤ, List, map, Option, option_map}
use Rattle.mq_base.specs.declared.query.Agg.{Agg}
use Rattle.mq_base.specs.declared.query.CmpOp.{CmpOp}
use Rattle.sql_reader.specs.declared.raw.RawCol.{RawCol}
use Rattle.sql_reader.specs.declared.raw.RawLit.{RawLit}
use Rattle.sql_reader.specs.declared.raw.RawLit.TheVariants as raw_lit
use Rattle.sql_reader.specs.declared.raw.RawSide.{RawSide}
use Rattle.sql_reader.specs.declared.raw.RawSide.TheVariants as raw_side
use Rattle.sql_reader.specs.declared.raw.RawCond.{RawCond}
use Rattle.sql_reader.specs.declared.raw.RawItem.{RawItem}
use Rattle.sql_reader.specs.declared.raw.RawItem.TheVariants as raw_item
use Rattle.sql_reader.specs.declared.raw.RawSource.{RawSource}
use Rattle.sql_reader.specs.declared.raw.RawHaving.{RawHaving}
use Rattle.sql_reader.specs.declared.raw.RawQuery.{RawQuery}

-- a column: the table before the dot, its name, and the place of its first word
pub record Column : Type 0 where
  pub table : Option (List ℕ)
  pub name : List ℕ
  pub at : ℕ

-- a literal: a number, or a text as it stands between its outer quotes
pub data Literal : Type 0 where
  Number : (value : ℤ) → Literal
  Text : (inside : List ℕ) → Literal

-- the right side of a comparison
pub data Side : Type 0 where
  Col : (column : Column) → Side
  Lit : (literal : Literal) → Side

-- a condition of ON or WHERE
pub record Condition : Type 0 where
  pub left : Column
  pub op : CmpOp
  pub right : Side

-- an item of a select list: a column; a function over a column, with the place of its word; the count, with its place
pub data Item : Type 0 where
  Plain : (column : Column) → Item
  Aggregate : (func : Agg) → (column : Column) → (at : ℕ) → Item
  Count : (at : ℕ) → Item

-- a table of a FROM list, with the place of its name, and the conditions of its ON
pub record Source : Type 0 where
  pub table : List ℕ
  pub at : ℕ
  pub on : List Condition

-- a condition of HAVING
pub record Having : Type 0 where
  pub item : Item
  pub op : CmpOp
  pub literal : Literal

-- a query
pub record Query : Type 0 where
  pub items : List Item
  pub sources : List Source
  pub conds : List Condition
  pub group : List Column
  pub having : List Having

-- the plain values of a query that borrows its text
abbrev pub column_of : RawCol → Column
column_of c = record { table = option_map (λ t. t.now) c.table; name = c.name.now; at = c.at }

abbrev pub literal_of : RawLit → Literal
literal_of (raw_lit.Number z) = Number z
literal_of (raw_lit.Text t) = Text t.now

abbrev pub side_of : RawSide → Side
side_of (raw_side.Col c) = Col (column_of c)
side_of (raw_side.Lit l) = Lit (literal_of l)

abbrev pub condition_of : RawCond → Condition
condition_of c = record { left = column_of c.left; op = c.op; right = side_of c.right }

abbrev pub item_of : RawItem → Item
item_of (raw_item.Col c) = Plain (column_of c)
item_of (raw_item.Agg func col at) = Aggregate func (column_of col) at
item_of (raw_item.Count at) = Count at

abbrev pub source_of : RawSource → Source
source_of s = record { table = s.table.now; at = s.at; on = map condition_of s.on }

abbrev pub having_of : RawHaving → Having
having_of h = record { item = item_of h.item; op = h.op; literal = literal_of h.lit }

abbrev pub query_of : RawQuery → Query
query_of q = record {
  items = map item_of q.items;
  sources = map source_of q.sources;
  conds = map condition_of q.conds;
  group = map column_of q.group;
  having = map having_of q.having;
}
