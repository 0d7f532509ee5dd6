-- Laws of the whole outcome: its parts in order, the functions and the count of a query, and its parts as one query.
use Rattle.std.proofs.Common.{◌≡◌, ℕ, Bool, true, false, ◌||◌, List, [], ◌∷◌, ◌++◌, map, Result, Ok, Err, refl, sym, ◌∙◌, ap}
use Rattle.std.specs.Prelude.{IfOk}
use Rattle.std.specs.List.{All, flat_map, list_any}
use Rattle.std.proofs.lemmas.List.{map-append}
use Rattle.std.proofs.lemmas.List.Elements.{All-append, All-map, All-weaker}
use Rattle.base_laws.proofs.ListLaws.{All-flat_map}
use Rattle.std.proofs.lemmas.List.Folds.{list_any-append}
use Rattle.base_laws.proofs.FilterLaws.{map_map}
use Rattle.mq_base.specs.declared.attr_set.AttrSet.{AttrSet}
use Rattle.mq_base.specs.declared.ids.AttrId.{AttrId}
use Rattle.mq_base.specs.declared.ids.TableId.{TableId}
use Rattle.mq_base.specs.declared.query.Agg.{Agg}
use Rattle.mq_base.specs.declared.query.Cond.{Cond}
use Rattle.mq_base.specs.declared.query as query
use Rattle.mq_base.specs.declared.schema.Schema.{Schema}
use Rattle.base_laws.specs.Firsts.{StopsAt}
use Rattle.mq_base.specs.BoundQuery.{IsBound}
use Rattle.mq_base.specs.Refusal.{Answers}
use Rattle.mq_base.specs.Schema.{IsSchema}
use Rattle.sql_reader.specs.Writable.{IsWritable}
use Rattle.sql_reader.specs.declared.raw.RawHaving.{RawHaving}
use Rattle.sql_reader.specs.declared.raw.RawItem.{RawItem}
use Rattle.sql_reader.specs.declared.raw.RawQuery.{RawQuery}
use Rattle.sql_reader.specs.declared.raw.RawSource.{RawSource}
use Rattle.sql_reader.specs.Syntax.{Query, condition_of, having_of, item_of, query_of, source_of}
use Rattle.query_bind.specs.declared.refusal.BindNo.{BindNo}
use Rattle.query_bind.specs.declared.refusal.BindNo.TheVariants.{Refused, NoMemory}
use Rattle.query_bind.specs.Bound.{aggregates, bound_condition, bound_having, bound_item, bound_query, group_set, has_count, is_count}
use Rattle.query_bind.specs.Codes.{refusal_of}
use Rattle.query_bind.specs.Faults.{bare_fault, grouped_fault, items_fault}
use Rattle.query_bind.specs.Lookup.{Use, all_conditions, all_uses, having_use, is_some_column, selected_use, source_conditions, source_tables}
use Rattle.query_bind.specs.Outcome.{bind_outcome, first_fault}
use Rattle.query_bind.specs.inside.Ranges.{ConditionFits, HavingFits, NumbersFit}
use Rattle.query_bind.specs.inside.Results.{numbers, selects_count, tests_count, uses_of}
use Rattle.query_bind.proofs.BoundBare.{no_column, bare_aggs}
use Rattle.query_bind.proofs.BoundLaws.{no_fault_is_bound}
use Rattle.query_bind.proofs.GatheredLaws.{aggs-whole, gathered-whole}

-- a query that is bound where there is no fault, and refused with the first one where there is, is the outcome
pub answers : (schema : Schema) (q : Query) (result : Result query.Query.Query BindNo) → StopsAt refusal_of result (first_fault schema q)
    → IfOk result (λ bound. bound ≡ bound_query schema q) → Answers refusal_of result (bind_outcome schema q)
unfolding bind_outcome
answers schema q (Ok bound) told same = rw (told, same) refl
answers schema q (Err (Refused code at)) told same = rw told refl
answers schema q (Err NoMemory) told same = tt

-- and it is bound
pub is_bound : (schema : Schema) (q : Query) (result : Result query.Query.Query BindNo) → IsSchema schema → IsWritable q
    → StopsAt refusal_of result (first_fault schema q) → IfOk result (λ bound. bound ≡ bound_query schema q) → IfOk result (λ _. NumbersFit q)
    → IfOk result (IsBound schema)
is_bound schema q (Ok bound) well written told same fits =
    rw same (no_fault_is_bound schema q well written fits told)
is_bound schema q (Err e) well written told same fits = tt

pub ruleset outcomes = (answers)

-- the items of the select list and of HAVING
pub uses-same : (raw : RawQuery) → uses_of raw ≡ all_uses (query_of raw)
uses-same raw = rw (map_map selected_use item_of raw.items, map_map having_use having_of raw.having) refl

pub ruleset uses = (uses-same, gathered-whole, aggs-whole)

pub with-group : (schema : Schema) (group : ℕ) (q : Query) (result : Result (List (AttrId × Agg)) BindNo) → is_some_column q.group ≡ true
    → group ≡ group_set schema q.group → StopsAt refusal_of result (grouped_fault schema group q) → StopsAt refusal_of result (items_fault schema q)
unfolding items_fault
with-group schema group q result grouped same told = rw (grouped, ← same) told

pub without-group : (schema : Schema) (q : Query) (result : Result (List (AttrId × Agg)) BindNo) → is_some_column q.group ≡ false
    → StopsAt refusal_of result (bare_fault q) → StopsAt refusal_of result (items_fault schema q)
unfolding items_fault
without-group schema q result bare told = rw bare told

pub without-aggs : (schema : Schema) (q : Query) (result : Result (List (AttrId × Agg)) BindNo) → is_some_column q.group ≡ false
    → (q.group ≡ [] → q.having ≡ []) → StopsAt refusal_of result (bare_fault q) → IfOk result (λ aggs. aggs ≡ [])
    → IfOk result (λ aggs. aggs ≡ aggregates schema (all_uses q))
without-aggs schema q (Ok aggs) bare grouped told none =
    none ∙ sym (bare_aggs schema q told (grouped (no_column q.group bare)))
without-aggs schema q (Err e) bare grouped told none = tt

-- the count stands in the select list or in HAVING
selected_count : (items : List RawItem) → list_any (λ (u : Use). is_count u.item) (map selected_use (map item_of items)) ≡ list_any selects_count items
selected_count [] = refl
selected_count (item ∷ rest) = rw (selected_count rest) refl

tested_count : (tests : List RawHaving) → list_any (λ (u : Use). is_count u.item) (map having_use (map having_of tests)) ≡ list_any tests_count tests
tested_count [] = refl
tested_count (test ∷ rest) = rw (tested_count rest) refl

count_same : (raw : RawQuery) → has_count (all_uses (query_of raw)) ≡ (list_any selects_count raw.items || list_any tests_count raw.having)
count_same raw =
    rw (
      list_any-append (λ (u : Use). is_count u.item) (map selected_use (map item_of raw.items)) (map having_use (map having_of raw.having)),
      selected_count raw.items,
      tested_count raw.having,
    ) refl

-- tables are those with their numbers
tables_same : (tables : List TableId) → tables ≡ map (λ t. record { 0 = t }) (numbers tables)
tables_same [] = refl
tables_same (t ∷ rest) = ap (λ more. t ∷ more) (tables_same rest)

-- items of which each is one
each_bound : {X Y Z : Type 0} (f : Y → Z) (g : X → Y) (xs : List X) → flat_map (λ x. f (g x) ∷ []) xs ≡ map f (map g xs)
each_bound f g [] = refl
each_bound f g (x ∷ rest) = rw (each_bound f g rest) refl

-- the conditions of ON
on_bound : (schema : Schema) (sources : List RawSource)
    → flat_map (λ s. flat_map (λ c. bound_condition schema (condition_of c) ∷ []) s.on) sources
    ≡ map (bound_condition schema) (flat_map source_conditions (map source_of sources))
on_bound schema [] = refl
on_bound schema (s ∷ rest) = rw (each_bound (bound_condition schema) condition_of s.on, on_bound schema rest, map-append) refl

-- the parts of a query make the query with ids
pub query-whole : (schema : Schema) (raw : RawQuery) (items : List query.Item.Item) (tables : List TableId) (conds : List Cond) (grouped : Bool)
    (group : AttrSet) (aggs : List (AttrId × Agg)) (count : Bool) (having : List query.Having.Having)
    → items ≡ flat_map (λ i. bound_item schema (item_of i) ∷ []) raw.items
    → numbers tables ≡ source_tables schema (query_of raw).sources
    → conds ≡ flat_map (λ s. flat_map (λ c. bound_condition schema (condition_of c) ∷ []) s.on) raw.sources
    ++ flat_map (λ c. bound_condition schema (condition_of c) ∷ []) raw.conds
    → grouped ≡ is_some_column (query_of raw).group
    → group.0 ≡ group_set schema (query_of raw).group
    → aggs ≡ aggregates schema (all_uses (query_of raw))
    → count ≡ (list_any selects_count raw.items || list_any tests_count raw.having)
    → having ≡ flat_map (λ h. bound_having schema (having_of h) ∷ []) raw.having
    → record { items = items; tables = tables; conds = conds; grouped = grouped; group = group; aggs = aggs; count = count; having = having }
    ≡ bound_query schema (query_of raw)
unfolding bound_query
query-whole schema raw items tables conds grouped group aggs count having items_is tables_has conds_is grouped_is group_has aggs_is count_is having_is =
    let q = query_of raw in
    let bound_items : items ≡ map (bound_item schema) q.items = items_is ∙ each_bound (bound_item schema) item_of raw.items in
    let bound_tests : having ≡ map (bound_having schema) q.having = having_is ∙ each_bound (bound_having schema) having_of raw.having in
    let tables_is : tables ≡ map (λ t. record { 0 = t }) (source_tables schema q.sources) = rw (← tables_has) (tables_same tables) in
    let group_is : group ≡ record { 0 = group_set schema q.group } = ap (λ set. record { 0 = set }) group_has in
    let all_is : conds ≡ map (bound_condition schema) (all_conditions q) =
    rw (conds_is, on_bound schema raw.sources, each_bound (bound_condition schema) condition_of raw.conds, map-append) refl in
    let has_is : count ≡ has_count (all_uses q) = count_is ∙ sym (count_same raw) in
    rw (bound_items, tables_is, all_is, grouped_is, group_is, aggs_is, has_is, bound_tests) refl

-- the numbers of a query are within 64 bits where those of its parts are
pub numbers-fit : (raw : RawQuery) → All (λ s. All (λ c. ConditionFits (condition_of c)) s.on) raw.sources
    → All (λ c. ConditionFits (condition_of c)) raw.conds → All (λ h. HavingFits (having_of h)) raw.having → NumbersFit (query_of raw)
numbers-fit raw on rest having = record {
  conds = All-append ConditionFits (flat_map source_conditions (map source_of raw.sources)) (map condition_of raw.conds)
      (All-flat_map ConditionFits source_conditions (map source_of raw.sources)
      (All-map (λ s. All ConditionFits (source_conditions s)) source_of raw.sources
      (All-weaker (λ (s : RawSource). All (λ c. ConditionFits (condition_of c)) s.on) (λ s. All ConditionFits (map condition_of s.on))
      (λ s each. All-map ConditionFits condition_of s.on each) raw.sources on)))
      (All-map ConditionFits condition_of raw.conds rest);
  having = All-map HavingFits having_of raw.having having;
}
