-- What a bound query is: its ids are those of a schema, what it compares has one type, and its plan is small enough.
-- docs/FORMATS.md, "Query", tells it in prose.
use Rattle.std.specs.Prelude.{◌≡◌, ◌≢◌, ◌⊎◌, ℕ, ◌<◌, ◌≤◌, Bool, true, false, List, [], ◌∷◌, length, map, All, Option, Some, slice_get, option_map}
use Rattle.base_laws.specs.Sets.{has}
use Rattle.mq_base.specs.declared.ids.AttrId.{AttrId}
use Rattle.mq_base.specs.declared.ids.TableId.{TableId}
use Rattle.mq_base.specs.declared.query.Agg.{Agg}
use Rattle.mq_base.specs.declared.query.Agg.TheVariants as agg
use Rattle.mq_base.specs.declared.query.Cond.{Cond}
use Rattle.mq_base.specs.declared.query.Cond.TheVariants as cond
use Rattle.mq_base.specs.declared.query.Having.{Having}
use Rattle.mq_base.specs.declared.query.Having.TheVariants as having
use Rattle.mq_base.specs.declared.query.Item.{Item}
use Rattle.mq_base.specs.declared.query.Item.TheVariants as item
use Rattle.mq_base.specs.declared.query.Query.{Query}
use Rattle.mq_base.specs.declared.schema.AttrInfo.{AttrInfo}
use Rattle.mq_base.specs.declared.schema.Schema.{Schema}
use Rattle.mq_base.specs.declared.value.ValueType.{ValueType}
use Rattle.mq_base.specs.declared.value.ValueType.TheVariants as type
use Rattle.mq_base.specs.declared.value.Value.{Value}
use Rattle.mq_base.specs.Nodes.{is_of_some, node_count}
use Rattle.mq_base.specs.Value.{IsCell}

-- the type of an attribute, where there is such an attribute
abbrev pub type_at : Schema → ℕ → Option ValueType
type_at schema a = option_map (λ (info : AttrInfo). info.ty) (slice_get schema.attrs a)

-- no number stands twice
abbrev pub AreDistinct : List ℕ → Type 0
AreDistinct [] = Unit {0}
AreDistinct (x ∷ rest) = All (λ y. x ≢ y) rest × AreDistinct rest

-- the value is one that a cell of the attribute may hold
pub record MayHold (schema : Schema) (a : AttrId) (value : Value) : Type 0 where
  pub ty : ValueType
  pub typed : type_at schema a.0 ≡ Some ty
  pub cell : IsCell ty value

-- two attributes have one type
pub record HaveOneType (schema : Schema) (a b : AttrId) : Type 0 where
  pub ty : ValueType
  pub left : type_at schema a.0 ≡ Some ty
  pub right : type_at schema b.0 ≡ Some ty

-- the attribute is one of the query's tables
abbrev pub IsOfTables : Schema → List TableId → AttrId → Type 0
IsOfTables schema tables a = is_of_some schema tables a ≡ true

-- a condition names attributes of the query's tables: one and a constant of its type, or two of one type
abbrev pub IsBoundCond : Schema → List TableId → Cond → Type 0
IsBoundCond schema tables (cond.Const a op x) = IsOfTables schema tables a × MayHold schema a x
IsBoundCond schema tables (cond.Attrs a op b) =
    IsOfTables schema tables a × IsOfTables schema tables b × (a ≢ b) × HaveOneType schema a b

-- the attribute stands under a function
abbrev pub IsAggregated : List (AttrId × Agg) → AttrId → Type 0
IsAggregated aggs a = (func : Agg) × (place : ℕ) × (slice_get aggs place ≡ Some (a, func))

-- an item without GROUP BY: an attribute of the query's tables
abbrev pub IsBareItem : Schema → Query → Item → Type 0
IsBareItem schema q (item.Attr a) = IsOfTables schema q.tables a
IsBareItem schema q item.Count = ⊥

-- an item with GROUP BY: a grouped attribute, one under a function, or the count
abbrev pub IsGroupedItem : Query → Item → Type 0
IsGroupedItem q (item.Attr a) = (has q.group.0 a.0 ≡ true) ⊎ IsAggregated q.aggs a
IsGroupedItem q item.Count = q.count ≡ true

-- only an INT has a sum
abbrev pub IsSummable : Schema → AttrId → Agg → Type 0
IsSummable schema a agg.Sum = type_at schema a.0 ≡ Some type.Int
IsSummable schema a agg.Min = Unit {0}
IsSummable schema a agg.Max = Unit {0}

-- an attribute under a function: one of the query's tables that is not grouped
pub record IsBoundAgg (schema : Schema) (q : Query) (p : AttrId × Agg) : Type 0 where
  pub used : IsOfTables schema q.tables p.0
  pub ungrouped : has q.group.0 p.0.0 ≡ false
  pub summable : IsSummable schema p.0 p.1

-- a condition of HAVING: on an attribute under a function, with a constant of its type, or on the count
abbrev pub IsBoundHaving : Schema → Query → Having → Type 0
IsBoundHaving schema q (having.Const a op x) = IsAggregated q.aggs a × MayHold schema a x
IsBoundHaving schema q (having.Count op n) = q.count ≡ true

-- a query without GROUP BY selects attributes and has no group, function, count or HAVING
pub record IsBare (schema : Schema) (q : Query) : Type 0 where
  pub items : All (IsBareItem schema q) q.items
  pub group : q.group.0 ≡ 0
  pub aggs : q.aggs ≡ []
  pub count : q.count ≡ false
  pub having : q.having ≡ []

-- a query with GROUP BY has a group of attributes of its tables, and each other attribute that it gives stands under
-- one function
pub record IsGrouped (schema : Schema) (q : Query) : Type 0 where
  pub some : q.group.0 ≢ 0
  pub group : (a : ℕ) → has q.group.0 a ≡ true → IsOfTables schema q.tables (record { 0 = a })
  pub items : All (IsGroupedItem q) q.items
  pub aggs : All (IsBoundAgg schema q) q.aggs
  pub once : AreDistinct (map (λ p. p.0.0) q.aggs)
  pub having : All (IsBoundHaving schema q) q.having

abbrev pub IsBareOrGrouped : Bool → Schema → Query → Type 0
IsBareOrGrouped false schema q = IsBare schema q
IsBareOrGrouped true schema q = IsGrouped schema q

-- a query that is bound to a schema
pub record IsBound (schema : Schema) (q : Query) : Type 0 where
  pub some_table : 1 ≤ length q.tables
  pub tables : All (λ (t : TableId). t.0 < length schema.tables) q.tables
  pub once : AreDistinct (map (λ (t : TableId). t.0) q.tables)
  pub some_item : 1 ≤ length q.items
  pub conds : All (IsBoundCond schema q.tables) q.conds
  pub selected : IsBareOrGrouped q.grouped schema q
  pub few_nodes : node_count schema q ≤ 64
