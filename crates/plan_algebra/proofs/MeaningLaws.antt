-- The plan of a query means the query: what is not named may be cut at the leaves, groups and HAVING stand above, and the
-- last projection shows what it did before.
use Rattle.std.proofs.Common.{◌≡◌, refl, sym, ◌∙◌, ap, subst, ℕ, ◌<◌, ◌≤◌, ◌-◌, Bool, true, false, cond as choice, ◌&&◌, List, [], ◌∷◌, ◌++◌, length, map, filter, filter_map, flat_map, find, Option, Some, None, option_map, slice_get, ◌==◌, bit_and, arith}
use Rattle.std.specs.Prelude.{IfSome, ◌↔◌}
use Rattle.std.specs.List.{AllByRecursion}
use Rattle.std.specs.Option.{option_map_or}
use Rattle.std.specs.Ordering.{ordering_reverse}
use Rattle.std.specs.declared.cmp.Ordering.{Ordering}
use Rattle.std.specs.declared.cmp.Ordering.TheVariants.{Less, Equal, Greater}
use Rattle.std.proofs.lemmas.Bool.{eqb-true}
use Rattle.std.proofs.lemmas.List.Elements.{recursion_from_All}
use Rattle.std.proofs.lemmas.List.Sums.{fold-append}
use Rattle.std.proofs.lemmas.Option.{slice_get-get_or}
use Rattle.base_laws.specs.Sets.{has, with_members}
use Rattle.base_laws.proofs.FilterLaws.{each_leads, each_unmap, each_piece, each_always, list_all_from_each, map_agree, map_same, map_map, filter_whole, filter_and}
use Rattle.base_laws.proofs.SetLaws.{has-bit_and, with_members-keeps, with_members-each}
use Rattle.mq_base.specs.declared.ids.AttrId.{AttrId}
use Rattle.mq_base.specs.declared.ids.TableId.{TableId}
use Rattle.mq_base.specs.declared.plan.Plan.{Plan}
use Rattle.mq_base.specs.declared.plan.PlanOp.TheVariants as op
use Rattle.mq_base.specs.declared.query.Agg.{Agg}
use Rattle.mq_base.specs.declared.query.CmpOp.{CmpOp}
use Rattle.mq_base.specs.declared.query.CmpOp.TheVariants.{Eq, Ne, Lt, Le, Gt, Ge}
use Rattle.mq_base.specs.declared.query.Cond.{Cond}
use Rattle.mq_base.specs.declared.query.Cond.TheVariants as cond
use Rattle.mq_base.specs.declared.query.Having.{Having}
use Rattle.mq_base.specs.declared.query.Having.TheVariants as having
use Rattle.mq_base.specs.declared.query.Item.{Item}
use Rattle.mq_base.specs.declared.query.Item.TheVariants as item
use Rattle.mq_base.specs.declared.query.Query.{Query}
use Rattle.mq_base.specs.declared.schema.Schema.{Schema}
use Rattle.mq_base.specs.declared.schema.TableInfo.{TableInfo}
use Rattle.mq_base.specs.BoundQuery.{AreDistinct, IsBound, IsBoundCond}
use Rattle.mq_base.specs.Nodes.{aggregated, cond_attributes, item_attribute, projects, selected_set, used_set}
use Rattle.mq_base.specs.Schema.{IsSchema, table_of}
use Rattle.mq_base.specs.Value.{value_cmp}
use Rattle.mq_base.specs.ValueLaws.{value_total}
use Rattle.row_algebra.specs.Contents.{owns, some_owns, HaveOwnCells}
use Rattle.row_algebra.specs.Groups.{function_of, grouped}
use Rattle.row_algebra.specs.Laws.{names_only, shows, GroupsWithin}
use Rattle.row_algebra.specs.Meaning.{product_of, grouped_rows, asked_rows, query_rows}
use Rattle.row_algebra.specs.Rows.{RowOf, IsOf, cut, product}
use Rattle.row_algebra.specs.Select.{selected}
use Rattle.row_algebra.specs.Tests.{Tests, holds, meets_all, meets_having, meets_every_having}
use Rattle.row_algebra.specs.Values.{value_tests, value_count}
use Rattle.row_algebra.proofs.RowLaws.{cut_as, cut_product, cut_filter, grouped_cut, selected_cut}
use Rattle.plan_algebra.specs.Meaning.{TurnsRound, node_rows, MeansQuery}
use Rattle.plan_algebra.specs.Nodes.{nodes_of}
use Rattle.plan_algebra.specs.Plan.{columns_set, grouping, joined, kept_by, plan_tree, projection, turned, used_of}
use Rattle.plan_algebra.specs.Tree.{apply_one, sem}
use Rattle.plan_algebra.proofs.StandLaws.{tree_back}
use Rattle.plan_algebra.proofs.UsesLaws.{used-group}
use Rattle.plan_algebra.proofs.MeaningLawsTables.{applied, over_means, leaf_rows, product_after, conds_on, joined_means, numbers}

-- what a query names is used

items_shown : (set : ℕ) (items : List Item) → AllByRecursion (λ a. has set a ≡ true) (filter_map item_attribute items)
    → AllByRecursion (λ i. shows set i ≡ true) items
items_shown set [] all = tt
items_shown set (item.Attr a ∷ rest) all = (all.0, items_shown set rest all.1)
items_shown set (item.Count ∷ rest) all = (refl, items_shown set rest all)

used_by_items : (q : Query) → AllByRecursion (λ i. shows (used_set q) i ≡ true) q.items
used_by_items q =
    let with_items = with_members q.group.0 (filter_map item_attribute q.items) in
    let with_conds = with_members with_items (flat_map cond_attributes q.conds) in
    items_shown (used_set q) q.items
    (each_leads (λ a. has with_items a ≡ true) (λ a. has (used_set q) a ≡ true)
    (λ a inside. with_members-keeps with_conds a (aggregated q.aggs)
    (with_members-keeps with_items a (flat_map cond_attributes q.conds) inside)) (filter_map item_attribute q.items)
    (with_members-each q.group.0 (filter_map item_attribute q.items)))

used_by_conds : (q : Query) → AllByRecursion (λ c. names_only (has (used_set q)) c ≡ true) q.conds
used_by_conds q =
    let with_items = with_members q.group.0 (filter_map item_attribute q.items) in
    let with_conds = with_members with_items (flat_map cond_attributes q.conds) in
    each_leads (λ c. AllByRecursion (λ a. has with_conds a ≡ true) (cond_attributes c))
    (λ c. names_only (has (used_set q)) c ≡ true)
    (λ c all. list_all_from_each (has (used_set q)) (cond_attributes c)
    (each_leads (λ a. has with_conds a ≡ true) (λ a. has (used_set q) a ≡ true)
    (λ a inside. with_members-keeps with_conds a (aggregated q.aggs) inside) (cond_attributes c) all)) q.conds
    (each_piece (λ a. has with_conds a ≡ true) cond_attributes q.conds
    (with_members-each with_items (flat_map cond_attributes q.conds)))

used_by_aggs : (q : Query) → AllByRecursion (λ (p : AttrId × Agg). has (used_set q) p.0.0 ≡ true) q.aggs
used_by_aggs q =
    let with_items = with_members q.group.0 (filter_map item_attribute q.items) in
    let with_conds = with_members with_items (flat_map cond_attributes q.conds) in
    each_unmap (λ a. has (used_set q) a ≡ true) (λ (p : AttrId × Agg). p.0.0) q.aggs
    (with_members-each with_conds (aggregated q.aggs))

function_named : (set : ℕ) (aggs : List (AttrId × Agg)) → AllByRecursion (λ (p : AttrId × Agg). has set p.0.0 ≡ true) aggs
    → (a : ℕ) (func : Agg) → function_of aggs a ≡ Some func → has set a ≡ true
function_named set [] all a func found = cc
function_named set (p ∷ rest) all a func found =
    by_test (p.0.0 == a) refl found (function_named set rest all.1 a func)
  where
    by_test : (b : Bool) → (p.0.0 == a) ≡ b
        → option_map (λ (r : AttrId × Agg). r.1) (choice b (Some p) (find (λ (r : AttrId × Agg). r.0.0 == a) rest)) ≡ Some func
        → (function_of rest a ≡ Some func → has set a ≡ true) → has set a ≡ true
    by_test true same here later = subst (λ i. has set i ≡ true) (eqb-true p.0.0 a same) all.0
    by_test false other here later = later here

groups_used : (q : Query) → GroupsWithin q.group.0 q.aggs (used_set q)
groups_used q = record { keys = used-group q; made = function_named (used_set q) q.aggs (used_by_aggs q) }

-- what is not named is cut at the leaves

-- the set of a table's columns has the attributes that the table owns
column_owned : (schema : Schema) → IsSchema schema → (t : TableId) (a : ℕ) → owns schema t.0 a ≡ true
    → has (columns_set schema t) a ≡ true
column_owned schema sound t a held = by_owner (table_of schema a) refl held (sound.placed a)
  where
    listed_in : (found : Option TableInfo) → slice_get schema.tables t.0 ≡ found → t.0 < length schema.tables
        → IfSome found (λ info. (b : ℕ) → (has info.attrs.0 b ≡ true) ↔ (table_of schema b ≡ Some t.0))
        → table_of schema a ≡ Some t.0 → has (option_map_or (λ (info : TableInfo). info.attrs.0) found 0) a ≡ true
    listed_in None none below listed owned =
        let there = slice_get-get_or schema.tables t.0 (record { name = []; owner = record { 0 = 0 }; attrs = record { 0 = 0 } }) below in
        cc
    listed_in (Some info) found below listed owned = (listed a).1 owned

    by_owner : (owner : Option ℕ) → table_of schema a ≡ owner → option_map_or (λ o. o == t.0) owner false ≡ true
        → IfSome owner (λ o. o < length schema.tables) → has (columns_set schema t) a ≡ true
    by_owner None none held placed = cc
    by_owner (Some o) owned held placed =
        let is_t : o ≡ t.0 = eqb-true o t.0 held in
        listed_in (slice_get schema.tables t.0) refl (subst (λ n. n < length schema.tables) is_t placed) (sound.listed t.0)
        (owned ∙ ap Some is_t)

leaf_is_cut : {C : Type 0} (schema : Schema) → IsSchema schema → (q : Query) (rows : ℕ → List (RowOf C)) → HaveOwnCells schema rows
    → (t : TableId) → leaf_rows schema q rows t ≡ map (cut (used_set q)) (rows t.0)
leaf_is_cut schema sound q rows own t =
    map_same (cut (used_of schema q t).0) (cut (used_set q)) (rows t.0)
    (each_leads (IsOf (owns schema t.0)) (λ r. cut (used_of schema q t).0 r ≡ cut (used_set q) r)
    (cut_as (used_of schema q t).0 (used_set q) (owns schema t.0) agree) (rows t.0) (own t.0))
  where
    and_true : (b c : Bool) → c ≡ true → (b && c) ≡ b
    and_true true c holds = holds
    and_true false c holds = refl

    agree : (a : ℕ) → owns schema t.0 a ≡ true → has (bit_and (used_set q) (columns_set schema t)) a ≡ has (used_set q) a
    agree a held =
        has-bit_and (used_set q) (columns_set schema t) a
        ∙ and_true (has (used_set q) a) (has (columns_set schema t) a) (column_owned schema sound t a held)

products_cut : {C : Type 0} (set : ℕ) (leaf : TableId → List (RowOf C)) (rows : ℕ → List (RowOf C))
    → ((t : TableId) → leaf t ≡ map (cut set) (rows t.0)) → (rest : List TableId) (before : List (RowOf C))
    → product_after leaf (map (cut set) before) rest
    ≡ map (cut set) (product_after (λ (t : TableId). rows t.0) before rest)
products_cut set leaf rows is_cut [] before = refl
products_cut set leaf rows is_cut (t ∷ rest) before =
    ap (λ us. product_after leaf us rest)
    (ap (product (map (cut set) before)) (is_cut t) ∙ sym (cut_product set before (rows t.0)))
    ∙ products_cut set leaf rows is_cut rest (product before (rows t.0))

-- the tables

bound_named : (schema : Schema) (tables : List TableId) (c : Cond) → IsBoundCond schema tables c
    → names_only (some_owns schema tables) c ≡ true
bound_named schema tables (cond.Const a cmp x) bound = list_all_from_each (some_owns schema tables) (a.0 ∷ []) (bound.0, tt)
bound_named schema tables (cond.Attrs a cmp b) bound =
    list_all_from_each (some_owns schema tables) (a.0 ∷ b.0 ∷ []) (bound.0, (bound.1, tt))

all_on : (schema : Schema) (q : Query) → IsBound schema q → conds_on schema q q.tables ≡ q.conds
all_on schema q bound =
    filter_whole (names_only (some_owns schema q.tables)) q.conds
    (each_leads (IsBoundCond schema q.tables) (λ c. names_only (some_owns schema q.tables) c ≡ true)
    (bound_named schema q.tables) q.conds (recursion_from_All (IsBoundCond schema q.tables) q.conds bound.conds))

-- the tree of the tables means the product, kept by all conditions and cut to what is used
tables_mean : {C : Type 0} (tests : Tests C) → TurnsRound tests → (rows : ℕ → List (RowOf C)) (schema : Schema) (q : Query)
    → IsSchema schema → IsBound schema q → HaveOwnCells schema rows
    → sem tests rows (joined schema q q.tables)
    ≡ map (cut (used_set q)) (filter (meets_all tests q.conds) (product_of rows q.tables))
tables_mean {C = C} tests turns rows schema q sound bound own =
    by_tables q.tables bound.some_table bound.once (all_on schema q bound)
    ∙ cut_filter tests (used_set q) q.conds (used_by_conds q) (product_of rows q.tables)
  where
    by_tables : (tables : List TableId) → 1 ≤ length tables → AreDistinct (numbers tables) → conds_on schema q tables ≡ q.conds
        → sem tests rows (joined schema q tables)
        ≡ filter (meets_all tests q.conds) (map (cut (used_set q)) (product_of rows tables))
    by_tables [] some once all = absurd (omega (arith, some))
    by_tables (first ∷ rest) some once all =
        joined_means tests turns rows schema q own first rest once
        ∙ ap (λ conds. filter (meets_all tests conds) (product_after (leaf_rows schema q rows) (leaf_rows schema q rows first) rest)) all
        ∙ ap (filter (meets_all tests q.conds))
        (ap (λ us. product_after (leaf_rows schema q rows) us rest) (leaf_is_cut schema sound q rows own first)
        ∙ products_cut (used_set q) (leaf_rows schema q rows) rows (leaf_is_cut schema sound q rows own) rest (rows first.0))

-- the group, HAVING and the projection

kept_by_means : {C : Type 0} (tests : Tests C) (h : Having) (us : List (RowOf C))
    → apply_one tests (kept_by h) us ≡ filter (λ r. meets_having tests r h) us
kept_by_means tests (having.Const a cmp x) us = refl
kept_by_means tests (having.Count cmp n) us = refl

havings_mean : {C : Type 0} (tests : Tests C) (conds : List Having) (us : List (RowOf C))
    → applied tests (map kept_by conds) us ≡ filter (meets_every_having tests conds) us
havings_mean tests [] us = sym (filter_whole (λ r. true) us (each_always (λ r. true ≡ true) (λ r. refl) us))
havings_mean tests (h ∷ rest) us =
    havings_mean tests rest (apply_one tests (kept_by h) us)
    ∙ ap (filter (meets_every_having tests rest)) (kept_by_means tests h us)
    ∙ filter_and (meets_every_having tests rest) (λ r. meets_having tests r h) us

-- the selected values of rows
abbrev shown : {C : Type 0} → (ℕ → C) → Query → List (RowOf C) → List (List C)
shown number q rows = map (selected number q.items) rows

shown_cut : {C : Type 0} (number : ℕ → C) (q : Query) (set : ℕ) → AllByRecursion (λ i. shows set i ≡ true) q.items
    → (rows : List (RowOf C)) → shown number q (map (cut set) rows) ≡ shown number q rows
shown_cut number q set all rows =
    map_map (selected number q.items) (cut set) rows
    ∙ map_agree (λ r. selected number q.items (cut set r)) (selected number q.items) (selected_cut number set q.items all) rows

grouping_means : {C : Type 0} (tests : Tests C) (number : ℕ → C) (q : Query) (rows : List (RowOf C))
    → shown number q (applied tests (grouping q) (map (cut (used_set q)) rows)) ≡ shown number q (grouped_rows tests q rows)
grouping_means {C = C} tests number q rows = by_test q.grouped
  where
    by_test : (b : Bool)
        → shown number q (applied tests (choice b (op.Group q.group q.aggs q.count ∷ map kept_by q.having) [])
        (map (cut (used_set q)) rows))
        ≡ shown number q (choice b (filter (meets_every_having tests q.having) (grouped tests q.group.0 q.aggs q.count rows)) rows)
    by_test true =
        ap (shown number q)
        (havings_mean tests q.having (grouped tests q.group.0 q.aggs q.count (map (cut (used_set q)) rows))
        ∙ ap (filter (meets_every_having tests q.having))
        (grouped_cut tests q.group.0 q.aggs q.count (used_set q) (groups_used q) rows))
    by_test false = shown_cut number q (used_set q) (used_by_items q) rows

projection_shows : {C : Type 0} (tests : Tests C) (number : ℕ → C) (q : Query) (rows : List (RowOf C))
    → shown number q (applied tests (projection q) rows) ≡ shown number q rows
projection_shows {C = C} tests number q rows = by_test (projects q)
  where
    by_test : (b : Bool)
        → shown number q (applied tests (choice b (op.Project (record { 0 = selected_set q.items }) ∷ []) []) rows)
        ≡ shown number q rows
    by_test true =
        shown_cut number q (selected_set q.items)
        (items_shown (selected_set q.items) q.items (with_members-each 0 (filter_map item_attribute q.items))) rows
    by_test false = refl

-- the plan's tree, read through the select list, gives what the query asks for, with any kind of cell
pub plan_means : {C : Type 0} (tests : Tests C) → TurnsRound tests → (number : ℕ → C) (rows : ℕ → List (RowOf C))
    (schema : Schema) (q : Query) → IsSchema schema → IsBound schema q → HaveOwnCells schema rows
    → map (selected number q.items) (sem tests rows (plan_tree schema q)) ≡ map (selected number q.items) (asked_rows tests rows q)
plan_means tests turns number rows schema q sound bound own =
    let kept = filter (meets_all tests q.conds) (product_of rows q.tables) in
    ap (shown number q)
    (over_means tests rows (grouping q ++ projection q) (joined schema q q.tables)
    ∙ ap (applied tests (grouping q ++ projection q)) (tables_mean tests turns rows schema q sound bound own)
    ∙ fold-append (λ us op. apply_one tests op us) (map (cut (used_set q)) kept) (grouping q) (projection q))
    ∙ projection_shows tests number q (applied tests (grouping q) (map (cut (used_set q)) kept))
    ∙ grouping_means tests number q kept

-- values compare the other way round by the comparison turned round
holds_turned : (op : CmpOp) (order : Ordering) → holds (turned op) (ordering_reverse order) ≡ holds op order
holds_turned Eq Less = refl
holds_turned Eq Equal = refl
holds_turned Eq Greater = refl
holds_turned Ne Less = refl
holds_turned Ne Equal = refl
holds_turned Ne Greater = refl
holds_turned Lt Less = refl
holds_turned Lt Equal = refl
holds_turned Lt Greater = refl
holds_turned Le Less = refl
holds_turned Le Equal = refl
holds_turned Le Greater = refl
holds_turned Gt Less = refl
holds_turned Gt Equal = refl
holds_turned Gt Greater = refl
holds_turned Ge Less = refl
holds_turned Ge Equal = refl
holds_turned Ge Greater = refl

values_turn : TurnsRound value_tests
values_turn op x y = ap (holds (turned op)) (value_total.antisymm y x) ∙ holds_turned op (value_cmp x y)

-- a plan that lists the tree of a query means the query
pub plan_means_query : (schema : Schema) (q : Query) (plan : Plan) → IsSchema schema → IsBound schema q
    → plan.nodes ≡ nodes_of 0 (plan_tree schema q) → MeansQuery schema q plan
unfolding query_rows
plan_means_query schema q plan sound bound listed contents own =
    ap (shown value_count q)
    (ap (λ nodes. node_rows value_tests contents nodes (length nodes - 1)) listed
    ∙ ap (sem value_tests contents) (tree_back (plan_tree schema q)))
    ∙ plan_means value_tests values_turn value_count contents schema q sound bound own
