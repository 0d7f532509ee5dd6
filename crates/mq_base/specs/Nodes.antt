-- How many nodes the plan of a query has. docs/FORMATS.md, "Query", tells the sum in prose.
use Rattle.std.specs.Prelude.{ℕ, ◌+◌, ◌==◌, Bool, true, false, not, ◌&&◌, ◌||◌, List, [], ◌∷◌, ◌++◌, length, map, filter_map, Option, Some, None, if◌then◌else◌}
use Rattle.std.specs.Option.{option_map_or}
use Rattle.std.specs.List.{list_any, flat_map}
use Rattle.base_laws.specs.Sets.{with_members}
use Rattle.mq_base.specs.declared.ids.AttrId.{AttrId}
use Rattle.mq_base.specs.declared.ids.TableId.{TableId}
use Rattle.mq_base.specs.declared.query.Agg.{Agg}
use Rattle.mq_base.specs.declared.query.Cond.{Cond}
use Rattle.mq_base.specs.declared.query.Cond.TheVariants as cond
use Rattle.mq_base.specs.declared.query.Item.{Item}
use Rattle.mq_base.specs.declared.query.Item.TheVariants as item
use Rattle.mq_base.specs.declared.query.Query.{Query}
use Rattle.mq_base.specs.declared.schema.Schema.{Schema}
use Rattle.mq_base.specs.Schema.{table_of}

-- whether the attribute is one of this table
abbrev pub is_of : Schema → ℕ → AttrId → Bool
is_of schema t a = option_map_or (λ owner. owner == t) (table_of schema a.0) false

-- whether the attribute is one of these tables
abbrev pub is_of_some : Schema → List TableId → AttrId → Bool
is_of_some schema tables a = list_any (λ (t : TableId). is_of schema t.0 a) tables

-- whether a condition compares an attribute of this table with one of the tables before it
abbrev pub joins : Schema → List TableId → TableId → Cond → Bool
joins schema earlier t (cond.Const a op value) = false
joins schema earlier t (cond.Attrs a op b) =
    (is_of_some schema earlier a && is_of schema t.0 b) || (is_of schema t.0 a && is_of_some schema earlier b)

-- how many of the tables that follow these no condition joins to an earlier one
abbrev pub unjoined_after : Schema → List Cond → List TableId → List TableId → ℕ
unjoined_after schema conds earlier [] = 0
unjoined_after schema conds earlier (t ∷ rest) =
    (if list_any (joins schema earlier t) conds then 0 else 1) + unjoined_after schema conds (earlier ++ t ∷ []) rest

-- how many tables after the first no condition joins to an earlier one
abbrev pub unjoined : Schema → List Cond → List TableId → ℕ
unjoined schema conds [] = 0
unjoined schema conds (first ∷ rest) = unjoined_after schema conds (first ∷ []) rest

-- the attribute of a selected item, where it is none of COUNT(*)
abbrev pub item_attribute : Item → Option ℕ
item_attribute (item.Attr a) = Some a.0
item_attribute item.Count = None

-- the attributes that a condition names
abbrev pub cond_attributes : Cond → List ℕ
cond_attributes (cond.Const a op value) = a.0 ∷ []
cond_attributes (cond.Attrs a op b) = a.0 ∷ b.0 ∷ []

-- the attributes under a function
abbrev pub aggregated : List (AttrId × Agg) → List ℕ
aggregated aggs = map (λ p. p.0.0) aggs

-- the set of the selected attributes
abbrev pub selected_set : List Item → ℕ
selected_set items = with_members 0 (filter_map item_attribute items)

-- the set of the used attributes, which are all that the query names: selected, compared, grouped or under a function
abbrev pub used_set : Query → ℕ
used_set q =
    with_members (with_members (with_members q.group.0 (filter_map item_attribute q.items)) (flat_map cond_attributes q.conds)) (aggregated q.aggs)

-- the set of the attributes that are visible before the selected ones are kept: with GROUP BY the grouped ones and those
-- under a function, and else all used ones
abbrev pub visible_set : Query → ℕ
visible_set q = if q.grouped then with_members q.group.0 (aggregated q.aggs) else used_set q

-- whether a projection ends the plan
abbrev pub projects : Query → Bool
projects q = not (selected_set q.items == visible_set q)

-- 1 where it is so
abbrev pub one_if : Bool → ℕ
one_if true = 1
one_if false = 0

-- the number of nodes of the query's plan
unfoldable pub node_count : Schema → Query → ℕ
node_count schema q =
    length q.tables + length q.conds + unjoined schema q.conds q.tables + one_if q.grouped + length q.having + one_if (projects q)
