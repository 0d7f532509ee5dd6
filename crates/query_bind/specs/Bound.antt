-- The query with ids in place of names, which `bind` answers. docs/FORMATS.md, "Query", tells it in prose.
use Rattle.std.specs.Prelude.{ℕ, ◌==◌, Bool, true, false, ℤ, pos, List, [], ◌∷◌, filter_map, map, Option, Some, None, if◌then◌else◌}
use Rattle.std.specs.List.{list_any}
use Rattle.base_laws.specs.Lists.{firsts}
use Rattle.base_laws.specs.Sets.{with_members}
use Rattle.mq_base.specs.declared.ids.AttrId.{AttrId}
use Rattle.mq_base.specs.declared.query.Agg.{Agg}
use Rattle.mq_base.specs.declared.query.Cond.{Cond}
use Rattle.mq_base.specs.declared.query.Cond.TheVariants as cond
use Rattle.mq_base.specs.declared.query.Having.TheVariants as having
use Rattle.mq_base.specs.declared.query.Item.TheVariants as item
use Rattle.mq_base.specs.declared.query.CmpOp.{CmpOp}
use Rattle.mq_base.specs.declared.query as query
use Rattle.mq_base.specs.declared.schema.Schema.{Schema}
use Rattle.mq_base.specs.declared.value.Value.{Value}
use Rattle.mq_base.specs.declared.value.Value.TheVariants as value
use Rattle.sql_reader.specs.Syntax.{Column, Literal, Number, Text, Side, Col, Lit, Condition, Item, Plain, Aggregate, Count, Having, Query}
use Rattle.query_bind.specs.Lookup.{attribute_of, source_tables, all_conditions, Use, all_uses, has_group}

-- a text without the doubling of its quotes
abbrev pub undoubled : List ℕ → List ℕ
undoubled [] = []
undoubled (b ∷ []) = b ∷ []
undoubled (b ∷ c ∷ rest) = if b == 39 then b ∷ undoubled rest else b ∷ undoubled (c ∷ rest)

-- the value of a literal
abbrev pub literal_value : Literal → Value
literal_value (Number n) = value.Int n
literal_value (Text inside) = value.Text (undoubled inside)

-- the number of a literal; it is asked only where it is one
abbrev pub literal_number : Literal → ℤ
literal_number (Number n) = n
literal_number (Text inside) = pos 0

-- the attribute of a column
abbrev pub attribute : Schema → Column → AttrId
attribute schema c = record { 0 = attribute_of schema c }

-- a selected item
abbrev pub bound_item : Schema → Item → query.Item.Item
bound_item schema (Plain c) = item.Attr (attribute schema c)
bound_item schema (Aggregate func c at) = item.Attr (attribute schema c)
bound_item schema (Count at) = item.Count

-- a condition with this right side
abbrev pub bound_side : Schema → AttrId → CmpOp → Side → Cond
bound_side schema left op (Col c) = cond.Attrs left op (attribute schema c)
bound_side schema left op (Lit l) = cond.Const left op (literal_value l)

-- a condition of ON and WHERE
abbrev pub bound_condition : Schema → Condition → Cond
bound_condition schema c = bound_side schema (attribute schema c.left) c.op c.right

-- a condition of HAVING on this item: the count, or an attribute under a function
abbrev pub bound_test : Schema → Item → CmpOp → Literal → query.Having.Having
bound_test schema (Plain c) op l = having.Const (attribute schema c) op (literal_value l)
bound_test schema (Aggregate func c at) op l = having.Const (attribute schema c) op (literal_value l)
bound_test schema (Count at) op l = having.Count op (literal_number l)

-- a condition of HAVING
abbrev pub bound_having : Schema → Having → query.Having.Having
bound_having schema h = bound_test schema h.item h.op h.literal

-- the set of grouped attributes
abbrev pub group_set : Schema → List Column → ℕ
group_set schema group = with_members 0 (map (attribute_of schema) group)

-- the attribute of an item under a function, with its function
abbrev pub item_function : Schema → Item → Option (AttrId × Agg)
item_function schema (Plain c) = None
item_function schema (Aggregate func c at) = Some (attribute schema c, func)
item_function schema (Count at) = None

-- the attributes under functions in the order of the text
abbrev pub functions : Schema → List Use → List (AttrId × Agg)
functions schema uses = filter_map (λ (u : Use). item_function schema u.item) uses

-- whether two of them are one attribute
abbrev pub same_attribute : AttrId × Agg → AttrId × Agg → Bool
same_attribute p q = p.0.0 == q.0.0

-- each attribute once, with its first function, in the order of first occurrence
abbrev pub aggregates : Schema → List Use → List (AttrId × Agg)
aggregates schema uses = firsts same_attribute (functions schema uses)

-- whether an item is COUNT(*)
abbrev pub is_count : Item → Bool
is_count (Count at) = true
is_count _ = false

-- whether one of these is COUNT(*)
abbrev pub has_count : List Use → Bool
has_count uses = list_any (λ (u : Use). is_count u.item) uses

-- the query with ids; it is asked only where nothing is wrong with it
unfoldable pub bound_query : Schema → Query → query.Query.Query
bound_query schema q = record {
  items = map (bound_item schema) q.items;
  tables = map (λ t. record { 0 = t }) (source_tables schema q.sources);
  conds = map (bound_condition schema) (all_conditions q);
  grouped = has_group q;
  group = record { 0 = group_set schema q.group };
  aggs = aggregates schema (all_uses q);
  count = has_count (all_uses q);
  having = map (bound_having schema) q.having;
}
