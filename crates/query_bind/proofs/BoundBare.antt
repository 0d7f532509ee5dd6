-- A query without GROUP BY and without a fault selects columns alone.
use Rattle.std.proofs.Common.{◌≡◌, false, List, [], ◌∷◌, ◌++◌, map, All, None, refl, ap, get_or}
use Rattle.std.proofs.lemmas.List.Elements.{All-nil, All-head, All-tail, All-append, All-map, All-same}
use Rattle.std.proofs.lemmas.List.Folds.{list_any_none}
use Rattle.base_laws.specs.Lists.{firsts}
use Rattle.base_laws.proofs.FirstLaws.{first_of-none}
use Rattle.mq_base.specs.declared.query as query
use Rattle.mq_base.specs.declared.schema.Schema.{Schema}
use Rattle.mq_base.specs.BoundQuery.{IsOfTables, IsBareItem, IsBare}
use Rattle.sql_reader.specs.Syntax.{Column, Item, Plain, Aggregate, Count, Having, Query}
use Rattle.query_bind.specs.Lookup.{is_some_column, item_columns, Use, selected_use, having_use, all_uses}
use Rattle.query_bind.specs.Bound.{attribute, bound_item, bound_having, group_set, item_function, functions, aggregates, same_attribute, is_count, has_count, bound_query}
use Rattle.query_bind.specs.Faults.{bare_item_fault, bare_fault}

bare_item : (schema : Schema) (bound : query.Query.Query) (i : Item) → bare_item_fault i ≡ None
    → All (λ c. IsOfTables schema bound.tables (attribute schema c)) (item_columns i) → IsBareItem schema bound (bound_item schema i)
bare_item schema bound (Plain c) none used = All-head (λ k. IsOfTables schema bound.tables (attribute schema k)) c [] used
bare_item schema bound (Aggregate func c at) none used = cc
bare_item schema bound (Count at) none used = cc

-- an item that is a column
abbrev IsPlain : Item → Type 0
IsPlain (Plain c) = Unit {0}
IsPlain (Aggregate func c at) = ⊥
IsPlain (Count at) = ⊥

plain_if_passed : (i : Item) → bare_item_fault i ≡ None → IsPlain i
plain_if_passed (Plain c) none = tt
plain_if_passed (Aggregate func c at) none = cc
plain_if_passed (Count at) none = cc

plain_is_no_function : (schema : Schema) (i : Item) → IsPlain i → item_function schema i ≡ None
plain_is_no_function schema (Plain c) plain = refl
plain_is_no_function schema (Aggregate func c at) plain = absurd plain
plain_is_no_function schema (Count at) plain = absurd plain

plain_is_no_count : (i : Item) → IsPlain i → is_count i ≡ false
plain_is_no_count (Plain c) plain = refl
plain_is_no_count (Aggregate func c at) plain = absurd plain
plain_is_no_count (Count at) plain = absurd plain

-- columns alone list no function and hold no count
no_functions : (schema : Schema) (uses : List Use) → All (λ (u : Use). IsPlain u.item) uses → functions schema uses ≡ []
no_functions schema [] plain = refl
no_functions schema (u ∷ rest) plain =
    rw (plain_is_no_function schema u.item (All-head (λ (v : Use). IsPlain v.item) u rest plain))
    (no_functions schema rest (All-tail (λ (v : Use). IsPlain v.item) u rest plain))

no_count : (uses : List Use) → All (λ (u : Use). IsPlain u.item) uses → has_count uses ≡ false
no_count uses plain =
    list_any_none (λ (u : Use). is_count u.item) uses (λ k d below. plain_is_no_count (get_or uses k d).item (plain k d below))

all_plain : (items : List Item) (having : List Having) → All (λ i. bare_item_fault i ≡ None) items → having ≡ []
    → All (λ (u : Use). IsPlain u.item) (map selected_use items ++ map having_use having)
all_plain items having passes none =
    All-append (λ (u : Use). IsPlain u.item) (map selected_use items) (map having_use having)
    (All-map (λ (u : Use). IsPlain u.item) selected_use items (λ k d below. plain_if_passed (get_or items k d) (passes k d below)))
    (All-same (λ (u : Use). IsPlain u.item) (map having_use having) [] (ap (map having_use) none) (All-nil (λ (u : Use). IsPlain u.item)))

-- a group without columns
pub no_column : (group : List Column) → is_some_column group ≡ false → group ≡ []
no_column [] none = refl
no_column (c ∷ rest) none = cc

plain_uses : (q : Query) → bare_fault q ≡ None → q.having ≡ [] → All (λ (u : Use). IsPlain u.item) (all_uses q)
plain_uses q none no_having = all_plain q.items q.having (first_of-none bare_item_fault q.items none) no_having

-- without GROUP BY no attribute stands under a function
pub bare_aggs : (schema : Schema) (q : Query) → bare_fault q ≡ None → q.having ≡ [] → aggregates schema (all_uses q) ≡ []
bare_aggs schema q none no_having = ap (firsts same_attribute) (no_functions schema (all_uses q) (plain_uses q none no_having))

pub bare_query : (schema : Schema) (q : Query) → bare_fault q ≡ None → q.group ≡ [] → q.having ≡ []
    → All (λ i. All (λ c. IsOfTables schema (bound_query schema q).tables (attribute schema c)) (item_columns i)) q.items
    → IsBare schema (bound_query schema q)
unfolding bound_query
bare_query schema q none no_group no_having used =
    let passes : All (λ i. bare_item_fault i ≡ None) q.items = first_of-none bare_item_fault q.items none in
    record {
      items = All-map (IsBareItem schema (bound_query schema q)) (bound_item schema) q.items
          (λ k d below. bare_item schema (bound_query schema q) (get_or q.items k d) (passes k d below) (used k d below));
      group = ap (group_set schema) no_group;
      aggs = bare_aggs schema q none no_having;
      count = no_count (all_uses q) (plain_uses q none no_having);
      having = ap (map (bound_having schema)) no_having;
    }
