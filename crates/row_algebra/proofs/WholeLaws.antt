-- Where a bound query is asked of contents in their form, each row has a value for each selected item.
use Rattle.std.proofs.Common.{◌≡◌, refl, sym, ◌∙◌, ap, subst, ℕ, zero, suc, ◌≤◌, ◌==◌, Bool, true, false, cond, ◌||◌, List, [], ◌∷◌, ◌++◌, length, map, filter, filter_map, find, fold, get_or, All, Option, Some, None, option_map, slice_get, arith, inl, inr}
use Rattle.std.specs.Prelude.{is_some, IsSomeAnd}
use Rattle.std.specs.List.{list_any, cons_option, reduce, AllByRecursion}
use Rattle.std.specs.Option.{option_or, option_map_or}
use Rattle.std.proofs.lemmas.Bool.{eqb-true}
use Rattle.std.proofs.lemmas.List.{append-nil, append_assoc}
use Rattle.std.proofs.lemmas.List.Elements.{All-from_recursion, recursion_from_All}
use Rattle.std.proofs.lemmas.List.Folds.{list_any_at}
use Rattle.std.proofs.lemmas.Option.{slice_get_within, get_or_from_slice_get}
use Rattle.base_laws.specs.Lists.{firsts}
use Rattle.base_laws.specs.Sets.{members}
use Rattle.base_laws.proofs.KindLaws.{All-firsts}
use Rattle.base_laws.proofs.FilterLaws.{each_always, each_leads, each_both, each_map, each_flat_map, each_filter, list_all_from_each}
use Rattle.mq_base.specs.declared.ids.AttrId.{AttrId}
use Rattle.mq_base.specs.declared.ids.TableId.{TableId}
use Rattle.mq_base.specs.declared.query.Agg.{Agg}
use Rattle.mq_base.specs.declared.query.Item.{Item}
use Rattle.mq_base.specs.declared.query.Item.TheVariants as item
use Rattle.mq_base.specs.declared.query.Query.{Query}
use Rattle.mq_base.specs.declared.schema.AttrInfo.{AttrInfo}
use Rattle.mq_base.specs.declared.schema.Schema.{Schema}
use Rattle.mq_base.specs.declared.value.Value.{Value}
use Rattle.mq_base.specs.BoundQuery.{IsBound, IsGrouped, IsBareOrGrouped, IsBareItem, IsGroupedItem, IsBoundAgg}
use Rattle.mq_base.specs.Value.{IsCell}
use Rattle.mq_base.specs.ValueLaws.{value_equiv}
use Rattle.row_algebra.specs.Contents.{Contents, owns, some_owns, HasCells, HaveForm}
use Rattle.row_algebra.specs.Groups.{same_cell, same_cells, function_of, aggregate, group_row, grouped}
use Rattle.row_algebra.specs.Meaning.{product_of, asked_rows, query_rows, AreWhole}
use Rattle.row_algebra.specs.Rows.{RowOf, merge, product}
use Rattle.row_algebra.specs.Select.{item_of, selected}
use Rattle.row_algebra.specs.Tests.{Tests, meets_all, meets_every_having}
use Rattle.row_algebra.specs.Values.{value_tests, value_count}
use Rattle.row_algebra.proofs.ContentLaws.{some_owns_push}

-- the row has a cell for each attribute that passes a test
abbrev pub Gives : {C : Type 0} → (ℕ → Bool) → RowOf C → Type 0
Gives test r = (a : ℕ) → test a ≡ true → is_some (r.cell a) ≡ true

-- rows of products

content_gives : (schema : Schema) (t : ℕ) (r : RowOf Value) → HasCells schema t r → Gives (owns schema t) r
content_gives schema t r cells a owned = by_info (slice_get schema.attrs a) refl owned
  where
    some_from_and : (P : Value → Type 0) (o : Option Value) → IsSomeAnd o P → is_some o ≡ true
    some_from_and P None holds = absurd holds
    some_from_and P (Some x) holds = refl

    by_info : (found : Option AttrInfo) → slice_get schema.attrs a ≡ found
        → option_map_or (λ o. o == t) (option_map (λ (info : AttrInfo). info.table.0) found) false ≡ true
        → is_some (r.cell a) ≡ true
    by_info None none held = cc
    by_info (Some info) there held =
        some_from_and (IsCell info.ty) (r.cell a) (cells a info there (eqb-true info.table.0 t held))

merge_gives : {C : Type 0} (left right both : ℕ → Bool) → ((a : ℕ) → both a ≡ (left a || right a)) → (u v : RowOf C)
    → Gives left u → Gives right v → Gives both (merge u v)
merge_gives {C = C} left right both agree u v own other a inside =
    by_side (left a) (right a) refl refl (sym (agree a) ∙ inside)
  where
    first : (c d : Option C) → is_some c ≡ true → is_some (option_or c d) ≡ true
    first None d there = cc
    first (Some x) d there = refl

    second : (c d : Option C) → is_some d ≡ true → is_some (option_or c d) ≡ true
    second None d there = there
    second (Some x) d there = refl

    by_side : (b c : Bool) → left a ≡ b → right a ≡ c → (b || c) ≡ true → is_some (option_or (u.cell a) (v.cell a)) ≡ true
    by_side true c in_left in_right held = first (u.cell a) (v.cell a) (own a in_left)
    by_side false true in_left in_right held = second (u.cell a) (v.cell a) (other a in_right)
    by_side false false in_left in_right held = cc

product_gives : {C : Type 0} (left right both : ℕ → Bool) → ((a : ℕ) → both a ≡ (left a || right a))
    → (us vs : List (RowOf C)) → AllByRecursion (Gives left) us → AllByRecursion (Gives right) vs
    → AllByRecursion (Gives both) (product us vs)
product_gives left right both agree us vs own other =
    each_flat_map (Gives both) (λ u. map (merge u) vs) us (each_leads (Gives left)
    (λ u. AllByRecursion (Gives both) (map (merge u) vs)) (λ u of_left. each_map (Gives both) (merge u) vs
    (each_leads (Gives right) (λ v. Gives both (merge u v))
    (λ v of_right. merge_gives left right both agree u v of_left of_right) vs other)) us own)

products_give : {C : Type 0} (schema : Schema) (rows : ℕ → List (RowOf C))
    → ((t : ℕ) → AllByRecursion (Gives (owns schema t)) (rows t)) → (rest earlier : List TableId) (before : List (RowOf C))
    → AllByRecursion (Gives (some_owns schema earlier)) before
    → AllByRecursion (Gives (some_owns schema (earlier ++ rest)))
    (fold (λ us (t : TableId). product us (rows t.0)) before rest)
products_give schema rows each [] earlier before all = rw (append-nil earlier) all
products_give schema rows each (t ∷ rest) earlier before all =
    subst (λ tables. AllByRecursion (Gives (some_owns schema tables))
    (fold (λ us (next : TableId). product us (rows next.0)) (product before (rows t.0)) rest))
    (append_assoc earlier (t ∷ []) rest)
    (products_give schema rows each rest (earlier ++ t ∷ []) (product before (rows t.0))
    (product_gives (some_owns schema earlier) (owns schema t.0) (some_owns schema (earlier ++ t ∷ []))
    (some_owns_push schema earlier t) before (rows t.0) all (each t.0)))

product_of_gives : {C : Type 0} (schema : Schema) (rows : ℕ → List (RowOf C))
    → ((t : ℕ) → AllByRecursion (Gives (owns schema t)) (rows t)) → (tables : List TableId)
    → AllByRecursion (Gives (some_owns schema tables)) (product_of rows tables)
product_of_gives schema rows each [] = ((λ a held. cc), tt)
product_of_gives schema rows each (t ∷ rest) =
    products_give schema rows each rest (t ∷ []) (rows t.0)
    (each_leads (Gives (owns schema t.0)) (Gives (some_owns schema (t ∷ [])))
    (λ r gives a held. gives a (or_false (owns schema t.0 a) held)) (rows t.0) (each t.0))
  where
    or_false : (b : Bool) → (b || false) ≡ true → b ≡ true
    or_false true held = refl
    or_false false held = held

-- groups

each_firsts : {X : Type 0} (P : X → Type 0) (same : X → X → Bool) (xs : List X) → AllByRecursion P xs
    → AllByRecursion P (firsts same xs)
each_firsts P same xs all =
    recursion_from_All P (firsts same xs) (All-firsts P same xs (All-from_recursion P xs all))

each_found : {X : Type 0} (same : X → X → Bool) → ((x : X) → same x x ≡ true) → (xs : List X)
    → AllByRecursion (λ x. list_any (same x) xs ≡ true) xs
each_found same alike xs =
    recursion_from_All (λ x. list_any (same x) xs ≡ true) xs
    (λ place d below. list_any_at (same (get_or xs place d)) xs place d below (alike (get_or xs place d)))

same_cells_alike : (group : ℕ) (r : RowOf Value) → same_cells value_tests group r r ≡ true
same_cells_alike group r =
    list_all_from_each (λ a. same_cell value_tests (r.cell a) (r.cell a)) (members group)
    (each_always (λ a. same_cell value_tests (r.cell a) (r.cell a) ≡ true) (λ a. by_value (r.cell a)) (members group))
  where
    by_value : (o : Option Value) → same_cell value_tests o o ≡ true
    by_value None = refl
    by_value (Some x) = value_equiv.refl x

-- a function of cells that are all there, and at least one
reduced : {C : Type 0} (f : C → C → C) (a : ℕ) (rows : List (RowOf C)) → AllByRecursion (λ r. is_some (r.cell a) ≡ true) rows
    → 1 ≤ length rows → is_some (reduce f (filter_map (λ r. r.cell a) rows)) ≡ true
reduced f a [] all some = absurd (omega (arith, some))
reduced {C = C} f a (r ∷ rest) all some = by_value (r.cell a) all.0
  where
    by_value : (o : Option C) → is_some o ≡ true
        → is_some (reduce f (cons_option o (filter_map (λ u. u.cell a) rest))) ≡ true
    by_value None there = cc
    by_value (Some c) there = refl

some_kept : {X : Type 0} (p : X → Bool) (xs : List X) → list_any p xs ≡ true → 1 ≤ length (filter p xs)
some_kept p [] held = cc
some_kept p (x ∷ xs) held = by_test (p x) held (some_kept p xs)
  where
    by_test : (b : Bool) → (b || list_any p xs) ≡ true → (list_any p xs ≡ true → 1 ≤ length (filter p xs))
        → 1 ≤ length (cond b (x ∷ filter p xs) (filter p xs))
    by_test true here later = omega arith
    by_test false here later = later here

function_found : (aggs : List (AttrId × Agg)) (a place : ℕ) (p : AttrId × Agg) → slice_get aggs place ≡ Some p → p.0.0 ≡ a
    → is_some (function_of aggs a) ≡ true
function_found [] a place p there is_a = cc
function_found (first ∷ rest) a zero p there is_a =
    let same : first ≡ p = cc in
    let it : first.0.0 ≡ a = ap (λ (r : AttrId × Agg). r.0.0) same ∙ is_a in
    rw (it, same_test a) refl
  where
    same_test : (a : ℕ) → (a == a) ≡ true
    same_test a = grind arith
function_found (first ∷ rest) a (suc place) p there is_a =
    by_test (first.0.0 == a) (function_found rest a place p there is_a)
  where
    by_test : (b : Bool) → is_some (function_of rest a) ≡ true
        → is_some (option_map (λ (r : AttrId × Agg). r.1) (cond b (Some first) (find (λ (r : AttrId × Agg). r.0.0 == a) rest))) ≡ true
    by_test true later = refl
    by_test false later = later

made_there : {C : Type 0} (tests : Tests C) (func : Option Agg) (a : ℕ) (rows : List (RowOf C)) → is_some func ≡ true
    → AllByRecursion (λ r. is_some (r.cell a) ≡ true) rows → 1 ≤ length rows → is_some (aggregate tests func a rows) ≡ true
made_there tests None a rows found all some = cc
made_there tests (Some f) a rows found all some = reduced (tests.step f) a rows all some

-- the attribute of a function is a bound one
bound_agg : (schema : Schema) (q : Query) → All (IsBoundAgg schema q) q.aggs → (place : ℕ) (p : AttrId × Agg)
    → slice_get q.aggs place ≡ Some p → IsBoundAgg schema q p
bound_agg schema q all place p there =
    subst (IsBoundAgg schema q) (get_or_from_slice_get q.aggs place p p there)
    (all place p (slice_get_within q.aggs place p there))

group_item : {C : Type 0} (tests : Tests C) (number : ℕ → C) (schema : Schema) (q : Query) → IsGrouped schema q
    → (first : RowOf C) (rows : List (RowOf C)) → Gives (some_owns schema q.tables) first
    → AllByRecursion (Gives (some_owns schema q.tables)) rows → 1 ≤ length rows → (i : Item) → IsGroupedItem q i
    → is_some (item_of number (group_row tests q.group.0 q.aggs q.count first rows) i) ≡ true
group_item tests number schema q bound first rows gives all some (item.Attr a) (inl key) =
    rw key (gives a.0 (bound.group a.0 key))
group_item tests number schema q bound first rows gives all some (item.Attr a) (inr under) =
    let its = bound_agg schema q bound.aggs under.1 (a, under.0) under.2 in
    rw its.ungrouped
    (made_there tests (function_of q.aggs a.0) a.0 rows (function_found q.aggs a.0 under.1 (a, under.0) under.2 refl)
    (each_leads (Gives (some_owns schema q.tables)) (λ r. is_some (r.cell a.0) ≡ true) (λ r of_row. of_row a.0 its.used)
    rows all) some)
group_item tests number schema q bound first rows gives all some item.Count counted = rw counted refl

bare_item : {C : Type 0} (number : ℕ → C) (schema : Schema) (q : Query) (r : RowOf C) → Gives (some_owns schema q.tables) r
    → (i : Item) → IsBareItem schema q i → is_some (item_of number r i) ≡ true
bare_item number schema q r gives (item.Attr a) of_tables = gives a.0 of_tables
bare_item number schema q r gives item.Count none = absurd none

selected_length : {C : Type 0} (number : ℕ → C) (r : RowOf C) (items : List Item)
    → AllByRecursion (λ i. is_some (item_of number r i) ≡ true) items → length (selected number items r) ≡ length items
selected_length number r [] all = refl
selected_length {C = C} number r (i ∷ rest) all =
    by_value (item_of number r i) all.0 (selected_length number r rest all.1)
  where
    by_value : (o : Option C) → is_some o ≡ true → length (selected number rest r) ≡ length rest
        → length (cons_option o (selected number rest r)) ≡ suc (length rest)
    by_value None there more = cc
    by_value (Some c) there more = ap suc more

-- the row of a group gives each item
group_whole : (schema : Schema) (q : Query) → IsGrouped schema q → (rows : List (RowOf Value))
    → AllByRecursion (Gives (some_owns schema q.tables)) rows → (first : RowOf Value)
    → Gives (some_owns schema q.tables) first × (list_any (same_cells value_tests q.group.0 first) rows ≡ true)
    → length (selected value_count q.items (group_row value_tests q.group.0 q.aggs q.count first
    (filter (same_cells value_tests q.group.0 first) rows))) ≡ length q.items
group_whole schema q bound rows all first there =
    let its = filter (same_cells value_tests q.group.0 first) rows in
    selected_length value_count (group_row value_tests q.group.0 q.aggs q.count first its) q.items
    (each_leads (IsGroupedItem q)
    (λ i. is_some (item_of value_count (group_row value_tests q.group.0 q.aggs q.count first its) i) ≡ true)
    (group_item value_tests value_count schema q bound first its there.0
    (each_filter (Gives (some_owns schema q.tables)) (same_cells value_tests q.group.0 first) rows all)
    (some_kept (same_cells value_tests q.group.0 first) rows there.1)) q.items
    (recursion_from_All (IsGroupedItem q) q.items bound.items))

rows_whole : (schema : Schema) (q : Query) (b : Bool) → IsBareOrGrouped b schema q → (rows : List (RowOf Value))
    → AllByRecursion (Gives (some_owns schema q.tables)) rows
    → AllByRecursion (λ r. length (selected value_count q.items r) ≡ length q.items)
    (cond b (filter (meets_every_having value_tests q.having) (grouped value_tests q.group.0 q.aggs q.count rows)) rows)
rows_whole schema q false bound rows all =
    each_leads (Gives (some_owns schema q.tables)) (λ r. length (selected value_count q.items r) ≡ length q.items)
    (λ r gives. selected_length value_count r q.items (each_leads (IsBareItem schema q)
    (λ i. is_some (item_of value_count r i) ≡ true) (bare_item value_count schema q r gives) q.items
    (recursion_from_All (IsBareItem schema q) q.items bound.items))) rows all
rows_whole schema q true bound rows all =
    let same = same_cells value_tests q.group.0 in
    each_filter (λ r. length (selected value_count q.items r) ≡ length q.items) (meets_every_having value_tests q.having)
    (grouped value_tests q.group.0 q.aggs q.count rows)
    (each_map (λ r. length (selected value_count q.items r) ≡ length q.items)
    (λ first. group_row value_tests q.group.0 q.aggs q.count first (filter (same first) rows)) (firsts same rows)
    (each_leads (λ first. Gives (some_owns schema q.tables) first × (list_any (same first) rows ≡ true))
    (λ first. length (selected value_count q.items (group_row value_tests q.group.0 q.aggs q.count first
    (filter (same first) rows))) ≡ length q.items) (group_whole schema q bound rows all) (firsts same rows)
    (each_firsts (λ first. Gives (some_owns schema q.tables) first × (list_any (same first) rows ≡ true)) same rows
    (each_both (Gives (some_owns schema q.tables)) (λ first. list_any (same first) rows ≡ true) rows all
    (each_found same (same_cells_alike q.group.0) rows)))))

-- each row that a bound query asks for has a value for each item
pub query_whole : (schema : Schema) (q : Query) (contents : Contents) → IsBound schema q → HaveForm schema contents
    → AreWhole q (query_rows contents q)
unfolding query_rows
query_whole schema q contents bound form =
    each_map (λ values. length values ≡ length q.items) (selected value_count q.items) (asked_rows value_tests contents q)
    (rows_whole schema q q.grouped bound.selected (filter (meets_all value_tests q.conds) (product_of contents q.tables))
    (each_filter (Gives (some_owns schema q.tables)) (meets_all value_tests q.conds) (product_of contents q.tables)
    (product_of_gives schema contents (λ t. each_leads (HasCells schema t) (Gives (owns schema t)) (content_gives schema t)
    (contents t) (form.cells t)) q.tables)))
