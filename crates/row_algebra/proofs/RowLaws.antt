-- Laws of rows with one kind of cell: what can be done on one side of a product, where a cut changes nothing, and how one
-- filter by all conditions is several.
use Rattle.std.proofs.Common.{◌≡◌, refl, sym, ◌∙◌, ap, ℕ, Bool, true, false, cond, ◌&&◌, ◌||◌, List, [], ◌∷◌, map, filter, filter_map, Option, Some, None}
use Rattle.std.specs.List.{AllByRecursion, reduce}
use Rattle.std.specs.Option.{option_or}
use Rattle.std.proofs.lemmas.List.{length-map}
use Rattle.std.proofs.lemmas.List.Elements.{filter_agree}
use Rattle.std.proofs.lemmas.List.Folds.{flat_map-map}
use Rattle.base_laws.specs.Lists.{firsts}
use Rattle.base_laws.specs.Sets.{has}
use Rattle.base_laws.proofs.FilterLaws.{each_always, each_leads, each_from_list_all, each_map, each_flat_map, list_all_same, list_all_parted, map_agree, map_map, map_flat_map, flat_map_same, flat_map_filter, filter_same, filter_constant, filter_and, filter_mapped, filter_flat_map, firsts_agree, firsts_mapped}
use Rattle.base_laws.proofs.SetLaws.{list_all-members}
use Rattle.mq_base.specs.declared.ids.AttrId.{AttrId}
use Rattle.mq_base.specs.declared.query.Agg.{Agg}
use Rattle.mq_base.specs.declared.query.Cond.{Cond}
use Rattle.mq_base.specs.declared.query.Cond.TheVariants as cond
use Rattle.mq_base.specs.declared.query.Item.{Item}
use Rattle.mq_base.specs.declared.query.Item.TheVariants as item
use Rattle.row_algebra.specs.Rows.{RowOf, cut, merge, product, IsOf}
use Rattle.row_algebra.specs.Tests.{Tests, meets, meets_all}
use Rattle.row_algebra.specs.Groups.{same_cell, same_cells, function_of, aggregate, group_row, grouped}
use Rattle.row_algebra.specs.Select.{selected}
use Rattle.row_algebra.specs.Laws.{names_only, shows, GroupsWithin}

-- rows

pub same_row : {C : Type 0} (u v : RowOf C) → ((a : ℕ) → u.cell a ≡ v.cell a) → u.count ≡ v.count → u ≡ v
same_row u v cells counts = λ i. record { cell = λ a. cells a i; count = counts i }

pub cut_merge : {C : Type 0} (set : ℕ) (u v : RowOf C) → cut set (merge u v) ≡ merge (cut set u) (cut set v)
cut_merge {C = C} set u v =
    same_row (cut set (merge u v)) (merge (cut set u) (cut set v)) (λ a. by_test (has set a) (u.cell a) (v.cell a)) refl
  where
    by_test : (b : Bool) (c d : Option C) → cond b (option_or c d) None ≡ option_or (cond b c None) (cond b d None)
    by_test true c d = refl
    by_test false c d = refl

-- two cuts agree on a row where they agree on the attributes that it may have
pub cut_as : {C : Type 0} (set other : ℕ) (test : ℕ → Bool) → ((a : ℕ) → test a ≡ true → has set a ≡ has other a)
    → (r : RowOf C) → IsOf test r → cut set r ≡ cut other r
cut_as {C = C} set other test agree r own =
    same_row (cut set r) (cut other r) (λ a. by_test a (test a) refl) refl
  where
    both_none : (b c : Bool) (o : Option C) → o ≡ None → cond b o None ≡ cond c o None
    both_none true true o none = refl
    both_none true false o none = none
    both_none false true o none = sym none
    both_none false false o none = refl

    by_test : (a : ℕ) (b : Bool) → test a ≡ b → cond (has set a) (r.cell a) None ≡ cond (has other a) (r.cell a) None
    by_test a true inside = rw (agree a inside) refl
    by_test a false outside = both_none (has set a) (has other a) (r.cell a) (own a outside)

pub cut_cell : {C : Type 0} (set a : ℕ) (r : RowOf C) → has set a ≡ true → (cut set r).cell a ≡ r.cell a
cut_cell set a r inside = rw inside refl

pub cut_is_of : {C : Type 0} (set : ℕ) (r : RowOf C) → IsOf (has set) (cut set r)
cut_is_of set r a outside = rw outside refl

pub cut_stays_of : {C : Type 0} (set : ℕ) (test : ℕ → Bool) (r : RowOf C) → IsOf test r → IsOf test (cut set r)
cut_stays_of {C = C} set test r own a outside = either (has set a) (r.cell a) (own a outside)
  where
    either : (b : Bool) (o : Option C) → o ≡ None → cond b o None ≡ None
    either true o none = none
    either false o none = refl

pub merge_left : {C : Type 0} (u v : RowOf C) (a : ℕ) → v.cell a ≡ None → (merge u v).cell a ≡ u.cell a
merge_left {C = C} u v a none = by_value (u.cell a) (v.cell a) none
  where
    by_value : (c d : Option C) → d ≡ None → option_or c d ≡ c
    by_value None d gone = gone
    by_value (Some x) d gone = refl

pub merge_right : {C : Type 0} (u v : RowOf C) (a : ℕ) → u.cell a ≡ None → (merge u v).cell a ≡ v.cell a
merge_right u v a none = rw none refl

pub merge_is_of : {C : Type 0} (left right both : ℕ → Bool) → ((a : ℕ) → both a ≡ (left a || right a)) → (u v : RowOf C)
    → IsOf left u → IsOf right v → IsOf both (merge u v)
merge_is_of left right both agree u v own other a outside =
    let parts = neither (left a) (right a) (sym (agree a) ∙ outside) in
    merge_left u v a (other a parts.1) ∙ own a parts.0
  where
    neither : (b c : Bool) → (b || c) ≡ false → (b ≡ false) × (c ≡ false)
    neither true c none = cc
    neither false c none = (refl, none)

pub product_is_of : {C : Type 0} (left right both : ℕ → Bool) → ((a : ℕ) → both a ≡ (left a || right a))
    → (us vs : List (RowOf C)) → AllByRecursion (IsOf left) us → AllByRecursion (IsOf right) vs
    → AllByRecursion (IsOf both) (product us vs)
product_is_of left right both agree us vs own other =
    each_flat_map (IsOf both) (λ u. map (merge u) vs) us (each_leads (IsOf left)
    (λ u. AllByRecursion (IsOf both) (map (merge u) vs)) (λ u of_left. each_map (IsOf both) (merge u) vs
    (each_leads (IsOf right) (λ v. IsOf both (merge u v))
    (λ v of_right. merge_is_of left right both agree u v of_left of_right) vs other)) us own)

-- filters and cuts of products

pub filter_left : {C : Type 0} (p : RowOf C → Bool) (us vs : List (RowOf C))
    → AllByRecursion (λ u. AllByRecursion (λ v. p (merge u v) ≡ p u) vs) us
    → filter p (product us vs) ≡ product (filter p us) vs
filter_left {C = C} p us vs all =
    filter_flat_map p (λ u. map (merge u) vs) us
    ∙ flat_map_same (λ u. filter p (map (merge u) vs)) (λ u. cond (p u) (map (merge u) vs) []) us
    (each_leads (λ u. AllByRecursion (λ v. p (merge u v) ≡ p u) vs)
    (λ u. filter p (map (merge u) vs) ≡ cond (p u) (map (merge u) vs) []) each us all)
    ∙ sym (flat_map_filter (λ u. map (merge u) vs) p us)
  where
    mapped : (u : RowOf C) (b : Bool) → map (merge u) (cond b vs []) ≡ cond b (map (merge u) vs) []
    mapped u true = refl
    mapped u false = refl

    each : (u : RowOf C) → AllByRecursion (λ v. p (merge u v) ≡ p u) vs
        → filter p (map (merge u) vs) ≡ cond (p u) (map (merge u) vs) []
    each u same =
        filter_mapped p (merge u) vs
        ∙ ap (map (merge u)) (filter_same (λ v. p (merge u v)) (λ v. p u) vs same ∙ filter_constant (p u) vs)
        ∙ mapped u (p u)

pub filter_right : {C : Type 0} (p : RowOf C → Bool) (us vs : List (RowOf C))
    → AllByRecursion (λ u. AllByRecursion (λ v. p (merge u v) ≡ p v) vs) us
    → filter p (product us vs) ≡ product us (filter p vs)
filter_right {C = C} p us vs all =
    filter_flat_map p (λ u. map (merge u) vs) us
    ∙ flat_map_same (λ u. filter p (map (merge u) vs)) (λ u. map (merge u) (filter p vs)) us
    (each_leads (λ u. AllByRecursion (λ v. p (merge u v) ≡ p v) vs)
    (λ u. filter p (map (merge u) vs) ≡ map (merge u) (filter p vs)) each us all)
  where
    each : (u : RowOf C) → AllByRecursion (λ v. p (merge u v) ≡ p v) vs
        → filter p (map (merge u) vs) ≡ map (merge u) (filter p vs)
    each u same = filter_mapped p (merge u) vs ∙ ap (map (merge u)) (filter_same (λ v. p (merge u v)) p vs same)

pub cut_product : {C : Type 0} (set : ℕ) (us vs : List (RowOf C))
    → map (cut set) (product us vs) ≡ product (map (cut set) us) (map (cut set) vs)
cut_product {C = C} set us vs =
    map_flat_map (cut set) (λ u. map (merge u) vs) us
    ∙ flat_map_same (λ u. map (cut set) (map (merge u) vs)) (λ u. map (merge (cut set u)) (map (cut set) vs)) us
    (each_always (λ u. map (cut set) (map (merge u) vs) ≡ map (merge (cut set u)) (map (cut set) vs)) each us)
    ∙ sym (flat_map-map (λ u. map (merge u) (map (cut set) vs)) (cut set) us)
  where
    each : (u : RowOf C) → map (cut set) (map (merge u) vs) ≡ map (merge (cut set u)) (map (cut set) vs)
    each u =
        map_map (cut set) (merge u) vs
        ∙ map_agree (λ v. cut set (merge u v)) (λ v. merge (cut set u) (cut set v)) (cut_merge set u) vs
        ∙ sym (map_map (merge (cut set u)) (cut set) vs)

-- conditions

-- a condition holds of two rows alike that have the same cells of its attributes
pub meets_same : {C : Type 0} (tests : Tests C) (test : ℕ → Bool) (u v : RowOf C)
    → ((a : ℕ) → test a ≡ true → u.cell a ≡ v.cell a) → (c : Cond) → names_only test c ≡ true
    → meets tests u c ≡ meets tests v c
meets_same tests test u v same (cond.Const a op value) named =
    let all = each_from_list_all test (a.0 ∷ []) named in rw (same a.0 all.0) refl
meets_same tests test u v same (cond.Attrs a op b) named =
    let all = each_from_list_all test (a.0 ∷ b.0 ∷ []) named in rw (same a.0 all.0, same b.0 all.1.0) refl

pub meets_all_same : {C : Type 0} (tests : Tests C) (test : ℕ → Bool) (conds : List Cond)
    → AllByRecursion (λ c. names_only test c ≡ true) conds → (u v : RowOf C)
    → ((a : ℕ) → test a ≡ true → u.cell a ≡ v.cell a) → meets_all tests conds u ≡ meets_all tests conds v
meets_all_same tests test conds named u v same =
    list_all_same (meets tests u) (meets tests v) conds
    (each_leads (λ c. names_only test c ≡ true) (λ c. meets tests u c ≡ meets tests v c)
    (meets_same tests test u v same) conds named)

-- one filter by the conditions that pass one of two tests is a filter by those of the first, and then of the second
pub filter_parted : {C : Type 0} (tests : Tests C) (p q r : Cond → Bool) → ((c : Cond) → p c ≡ (q c || r c))
    → (conds : List Cond) (rows : List (RowOf C))
    → filter (meets_all tests (filter r conds)) (filter (meets_all tests (filter q conds)) rows)
    ≡ filter (meets_all tests (filter p conds)) rows
filter_parted tests p q r agree conds rows =
    filter_and (meets_all tests (filter r conds)) (meets_all tests (filter q conds)) rows
    ∙ filter_agree (λ u. meets_all tests (filter q conds) u && meets_all tests (filter r conds) u)
    (meets_all tests (filter p conds)) (λ u. sym (list_all_parted (meets tests u) p q r agree conds)) rows

-- conditions of which each names what the left rows have, and the right rows have not, hold of the left rows
pub conditions_left : {C : Type 0} (tests : Tests C) (left right : ℕ → Bool) → ((a : ℕ) → left a ≡ true → right a ≡ false)
    → (conds : List Cond) → AllByRecursion (λ c. names_only left c ≡ true) conds → (us vs : List (RowOf C))
    → AllByRecursion (IsOf right) vs
    → filter (meets_all tests conds) (product us vs) ≡ product (filter (meets_all tests conds) us) vs
conditions_left tests left right apart conds named us vs own =
    filter_left (meets_all tests conds) us vs
    (each_always (λ u. AllByRecursion (λ v. meets_all tests conds (merge u v) ≡ meets_all tests conds u) vs)
    (λ u. each_leads (IsOf right) (λ v. meets_all tests conds (merge u v) ≡ meets_all tests conds u)
    (λ v of_right. meets_all_same tests left conds named (merge u v) u
    (λ a inside. merge_left u v a (of_right a (apart a inside)))) vs own) us)

pub conditions_right : {C : Type 0} (tests : Tests C) (left right : ℕ → Bool) → ((a : ℕ) → right a ≡ true → left a ≡ false)
    → (conds : List Cond) → AllByRecursion (λ c. names_only right c ≡ true) conds → (us vs : List (RowOf C))
    → AllByRecursion (IsOf left) us
    → filter (meets_all tests conds) (product us vs) ≡ product us (filter (meets_all tests conds) vs)
conditions_right tests left right apart conds named us vs own =
    filter_right (meets_all tests conds) us vs
    (each_leads (IsOf left) (λ u. AllByRecursion (λ v. meets_all tests conds (merge u v) ≡ meets_all tests conds v) vs)
    (λ u of_left. each_always (λ v. meets_all tests conds (merge u v) ≡ meets_all tests conds v)
    (λ v. meets_all_same tests right conds named (merge u v) v
    (λ a inside. merge_right u v a (of_left a (apart a inside)))) vs) us own)

-- a cut to attributes that every condition's are among moves out of a filter
pub cut_filter : {C : Type 0} (tests : Tests C) (set : ℕ) (conds : List Cond)
    → AllByRecursion (λ c. names_only (has set) c ≡ true) conds → (rows : List (RowOf C))
    → filter (meets_all tests conds) (map (cut set) rows) ≡ map (cut set) (filter (meets_all tests conds) rows)
cut_filter tests set conds named rows =
    filter_mapped (meets_all tests conds) (cut set) rows
    ∙ ap (map (cut set))
    (filter_agree (λ r. meets_all tests conds (cut set r)) (meets_all tests conds)
    (λ r. meets_all_same tests (has set) conds named (cut set r) r (λ a inside. cut_cell set a r inside)) rows)

-- groups

same_cells_cut : {C : Type 0} (tests : Tests C) (group set : ℕ) → ((a : ℕ) → has group a ≡ true → has set a ≡ true)
    → (u v : RowOf C) → same_cells tests group (cut set u) (cut set v) ≡ same_cells tests group u v
same_cells_cut tests group set within u v =
    list_all-members group (λ a. same_cell tests ((cut set u).cell a) ((cut set v).cell a))
    (λ a. same_cell tests (u.cell a) (v.cell a)) (λ a inside. rw (within a inside) refl)

gathered_cut : {C : Type 0} (set a : ℕ) → has set a ≡ true → (rows : List (RowOf C))
    → filter_map (λ r. r.cell a) (map (cut set) rows) ≡ filter_map (λ r. r.cell a) rows
gathered_cut set a inside [] = refl
gathered_cut set a inside (r ∷ rest) = rw (inside, gathered_cut set a inside rest) refl

aggregate_cut : {C : Type 0} (tests : Tests C) (set a : ℕ) (func : Option Agg)
    → ((f : Agg) → func ≡ Some f → has set a ≡ true) → (rows : List (RowOf C))
    → aggregate tests func a (map (cut set) rows) ≡ aggregate tests func a rows
aggregate_cut tests set a None within rows = refl
aggregate_cut tests set a (Some f) within rows = ap (reduce (tests.step f)) (gathered_cut set a (within f refl) rows)

group_row_cut : {C : Type 0} (tests : Tests C) (group : ℕ) (aggs : List (AttrId × Agg)) (counted : Bool) (set : ℕ)
    → GroupsWithin group aggs set → (first : RowOf C) (rows : List (RowOf C))
    → group_row tests group aggs counted (cut set first) (map (cut set) rows)
    ≡ group_row tests group aggs counted first rows
group_row_cut tests group aggs counted set within first rows =
    same_row (group_row tests group aggs counted (cut set first) (map (cut set) rows))
    (group_row tests group aggs counted first rows) (λ a. by_test a (has group a) refl)
    (ap (λ n. cond counted (Some n) None) (length-map rows (cut set)))
  where
    by_test : (a : ℕ) (b : Bool) → has group a ≡ b
        → cond b ((cut set first).cell a) (aggregate tests (function_of aggs a) a (map (cut set) rows))
        ≡ cond b (first.cell a) (aggregate tests (function_of aggs a) a rows)
    by_test a true inside = cut_cell set a first (within.keys a inside)
    by_test a false outside = aggregate_cut tests set a (function_of aggs a) (within.made a) rows

-- the row of the group of a row in rows that are cut
abbrev group_in_cut : {C : Type 0} → Tests C → ℕ → List (AttrId × Agg) → Bool → ℕ → List (RowOf C) → RowOf C → RowOf C
group_in_cut tests group aggs counted set rows first =
    group_row tests group aggs counted first (filter (same_cells tests group first) (map (cut set) rows))

group_in_cut_is : {C : Type 0} (tests : Tests C) (group : ℕ) (aggs : List (AttrId × Agg)) (counted : Bool) (set : ℕ)
    → GroupsWithin group aggs set → (rows : List (RowOf C)) (first : RowOf C)
    → group_in_cut tests group aggs counted set rows (cut set first)
    ≡ group_row tests group aggs counted first (filter (same_cells tests group first) rows)
group_in_cut_is tests group aggs counted set within rows first =
    ap (group_row tests group aggs counted (cut set first))
    (filter_mapped (same_cells tests group (cut set first)) (cut set) rows
    ∙ ap (map (cut set)) (filter_agree (λ v. same_cells tests group (cut set first) (cut set v))
    (same_cells tests group first) (same_cells_cut tests group set within.keys first) rows))
    ∙ group_row_cut tests group aggs counted set within first (filter (same_cells tests group first) rows)

-- groups by attributes of a set, and functions of such, see nothing of a cut to the set
pub grouped_cut : {C : Type 0} (tests : Tests C) (group : ℕ) (aggs : List (AttrId × Agg)) (counted : Bool) (set : ℕ)
    → GroupsWithin group aggs set → (rows : List (RowOf C))
    → grouped tests group aggs counted (map (cut set) rows) ≡ grouped tests group aggs counted rows
grouped_cut tests group aggs counted set within rows =
    ap (map (group_in_cut tests group aggs counted set rows))
    (firsts_mapped (same_cells tests group) (cut set) rows
    ∙ ap (map (cut set)) (firsts_agree (λ u v. same_cells tests group (cut set u) (cut set v)) (same_cells tests group)
    (same_cells_cut tests group set within.keys) rows))
    ∙ map_map (group_in_cut tests group aggs counted set rows) (cut set) (firsts (same_cells tests group) rows)
    ∙ map_agree (λ first. group_in_cut tests group aggs counted set rows (cut set first))
    (λ first. group_row tests group aggs counted first (filter (same_cells tests group first) rows))
    (group_in_cut_is tests group aggs counted set within rows) (firsts (same_cells tests group) rows)

-- selected values

pub selected_cut : {C : Type 0} (number : ℕ → C) (set : ℕ) (items : List Item) → AllByRecursion (λ i. shows set i ≡ true) items
    → (r : RowOf C) → selected number items (cut set r) ≡ selected number items r
selected_cut number set [] all r = refl
selected_cut number set (item.Attr a ∷ rest) all r = rw (all.0, selected_cut number set rest all.1 r) refl
selected_cut number set (item.Count ∷ rest) all r = rw (selected_cut number set rest all.1 r) refl
