-- A query with GROUP BY and without a fault: each item is grouped or under one function, and HAVING tests only such.
use Rattle.std.proofs.Common.{◌≡◌, true, false, [], map, All, Option, Some, None, refl, inl, inr, get_or}
use Rattle.std.proofs.lemmas.Bool.{not-false}
use Rattle.std.proofs.lemmas.List.Elements.{All-head, All-map}
use Rattle.base_laws.specs.Firsts.{first_of}
use Rattle.base_laws.specs.Sets.{has}
use Rattle.base_laws.proofs.FirstLaws.{none_left, first_of-none}
use Rattle.base_laws.proofs.ListLaws.{All-first, All-second, All-unmapped, list_any-each}
use Rattle.mq_base.specs.declared.query.Agg.{Agg}
use Rattle.mq_base.specs.declared.query.Agg.TheVariants as agg
use Rattle.mq_base.specs.declared.query.CmpOp.{CmpOp}
use Rattle.mq_base.specs.declared.query as query
use Rattle.mq_base.specs.declared.schema.Schema.{Schema}
use Rattle.mq_base.specs.declared.value.ValueType.TheVariants as type
use Rattle.mq_base.specs.BoundQuery.{IsOfTables, IsGroupedItem, IsSummable, IsBoundAgg, IsBoundHaving, IsGrouped}
use Rattle.sql_reader.specs.Syntax.{Column, Literal, Item, Plain, Aggregate, Count, Query}
use Rattle.sql_reader.specs.Writable.{IsAnAggregate, IsWritableHaving}
use Rattle.query_bind.specs.declared.refusal.BindCode.TheVariants.{NotGrouped}
use Rattle.query_bind.specs.Lookup.{attribute_of, item_columns, Use, selected_use, having_use, all_uses, has_group}
use Rattle.query_bind.specs.Bound.{attribute, bound_item, bound_test, bound_having, group_set, aggregates, is_count, bound_query}
use Rattle.query_bind.specs.Faults.{literal_type, has_type, is_no_sum, grouped_item_fault, uses_fault, grouped_fault}
use Rattle.query_bind.specs.inside.Ranges.{Fits, HavingFits}
use Rattle.query_bind.proofs.BoundParts.{passed}
use Rattle.query_bind.proofs.BoundColumns.{EachColumn}
use Rattle.query_bind.proofs.BoundConditions.{type_from_test, literal_held}
use Rattle.query_bind.proofs.BoundGroup.{some_grouped, grouped_used}
use Rattle.query_bind.proofs.BoundUses.{ItemPasses, uses_pass, IsListedItem, uses_listed, aggregated_if_listed, ItemGives, aggs_all, aggs_once}

-- an item that stands in a query whose count is told
abbrev IsCountedItem : query.Query.Query → Item → Type 0
IsCountedItem bound i = is_count i ≡ true → bound.count ≡ true

grouped_item : (schema : Schema) (bound : query.Query.Query) (i : Item) → grouped_item_fault schema bound.group.0 i ≡ None
    → IsListedItem schema bound.aggs i → IsCountedItem bound i → IsGroupedItem bound (bound_item schema i)
grouped_item schema bound (Plain c) none listed counted =
    inl (not-false (has bound.group.0 (attribute_of schema c)) (passed _ NotGrouped c.at none))
grouped_item schema bound (Aggregate func c at) none listed counted =
    inr (aggregated_if_listed (attribute schema c) bound.aggs listed)
grouped_item schema bound (Count at) none listed counted = counted refl

summable : (schema : Schema) (func : Agg) (c : Column) → is_no_sum schema func c ≡ false → IsSummable schema (attribute schema c) func
summable schema agg.Sum c sums = type_from_test schema c type.Int (not-false (has_type schema c type.Int) sums)
summable schema agg.Min c sums = tt
summable schema agg.Max c sums = tt

bound_agg : (schema : Schema) (bound : query.Query.Query) (i : Item) (literal : Option Literal)
    → ItemPasses schema bound.group.0 i literal → All (λ c. IsOfTables schema bound.tables (attribute schema c)) (item_columns i)
    → ItemGives (IsBoundAgg schema bound) schema i
bound_agg schema bound (Plain c) literal passes used = tt
bound_agg schema bound (Aggregate func c at) literal passes used = record {
  used = All-head (λ k. IsOfTables schema bound.tables (attribute schema k)) c [] used;
  ungrouped = passes.ungrouped;
  summable = summable schema func c passes.summable;
}
bound_agg schema bound (Count at) literal passes used = tt

having_bound : (schema : Schema) (bound : query.Query.Query) (i : Item) (op : CmpOp) (l : Literal) → IsAnAggregate i
    → ItemPasses schema bound.group.0 i (Some l) → IsListedItem schema bound.aggs i → IsCountedItem bound i → Fits l
    → IsBoundHaving schema bound (bound_test schema i op l)
having_bound schema bound (Plain c) op l aggregate passes listed counted fits = absurd aggregate
having_bound schema bound (Aggregate func c at) op l aggregate passes listed counted fits = (
  aggregated_if_listed (attribute schema c) bound.aggs listed,
  literal_held schema c l (not-false (has_type schema c (literal_type l)) passes.typed) passes.short fits,
)
having_bound schema bound (Count at) op l aggregate passes listed counted fits = counted refl

-- what holds of each use holds of each item and of each condition of HAVING
of_selected : (P : Use → Type 0) (q : Query) → All P (all_uses q) → All (λ i. P (selected_use i)) q.items
of_selected P q all = All-unmapped P selected_use q.items (All-first P (map selected_use q.items) (map having_use q.having) all)

of_having : (P : Use → Type 0) (q : Query) → All P (all_uses q) → All (λ h. P (having_use h)) q.having
of_having P q all = All-unmapped P having_use q.having (All-second P (map selected_use q.items) (map having_use q.having) all)

pub grouped_query : (schema : Schema) (q : Query) → grouped_fault schema (group_set schema q.group) q ≡ None → has_group q ≡ true
    → EachColumn (λ c. IsOfTables schema (bound_query schema q).tables (attribute schema c)) q
    → All IsWritableHaving q.having → All HavingFits q.having → IsGrouped schema (bound_query schema q)
unfolding bound_query
grouped_query schema q none some used written fits =
    let parts = none_left (first_of (map (grouped_item_fault schema (group_set schema q.group)) q.items))
    (uses_fault schema (group_set schema q.group) q) none in
    let selected = first_of-none (grouped_item_fault schema (group_set schema q.group)) q.items parts.0 in
    let passes = uses_pass schema (group_set schema q.group) [] (all_uses q) parts.1 in
    let listed = uses_listed schema (all_uses q) in
    let counted = list_any-each (λ (u : Use). is_count u.item) (all_uses q) in
    let items_listed = of_selected (λ (u : Use). IsListedItem schema (aggregates schema (all_uses q)) u.item) q listed in
    let items_counted = of_selected (λ (u : Use). IsCountedItem (bound_query schema q) u.item) q counted in
    let having_passes = of_having (λ (u : Use). ItemPasses schema (group_set schema q.group) u.item u.literal) q passes in
    let having_listed = of_having (λ (u : Use). IsListedItem schema (aggregates schema (all_uses q)) u.item) q listed in
    let having_counted = of_having (λ (u : Use). IsCountedItem (bound_query schema q) u.item) q counted in
    record {
      some = some_grouped schema q.group some;
      group = grouped_used schema (bound_query schema q).tables q.group used.group;
      items = All-map (IsGroupedItem (bound_query schema q)) (bound_item schema) q.items (λ k d below.
          grouped_item schema (bound_query schema q) (get_or q.items k d) (selected k d below) (items_listed k d below) (items_counted k d below));
      aggs = aggs_all (IsBoundAgg schema (bound_query schema q)) schema (all_uses q)
          (λ k d below. bound_agg schema (bound_query schema q) (get_or (all_uses q) k d).item (get_or (all_uses q) k d).literal
          (passes k d below) (used.uses k d below));
      once = aggs_once schema (all_uses q);
      having = All-map (IsBoundHaving schema (bound_query schema q)) (bound_having schema) q.having (λ k d below.
          having_bound schema (bound_query schema q) (get_or q.having k d).item (get_or q.having k d).op (get_or q.having k d).literal
          (written k d below).aggregate (having_passes k d below) (having_listed k d below) (having_counted k d below) (fits k d below));
    }
