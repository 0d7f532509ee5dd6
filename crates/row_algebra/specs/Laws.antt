-- The laws of rows with one kind of cell, and what they ask of conditions, groups and items: that they name nothing
-- outside of a set. docs/MODEL.md, "Rows", tells them in prose.
use Rattle.std.specs.Prelude.{◌≡◌, ℕ, Bool, true, false, ◌||◌, List, map, filter, Some}
use Rattle.std.specs.List.{list_all, AllByRecursion}
use Rattle.base_laws.specs.Sets.{has}
use Rattle.mq_base.specs.declared.ids.AttrId.{AttrId}
use Rattle.mq_base.specs.declared.query.Agg.{Agg}
use Rattle.mq_base.specs.declared.query.Cond.{Cond}
use Rattle.mq_base.specs.declared.query.Item.{Item}
use Rattle.mq_base.specs.declared.query.Item.TheVariants as item
use Rattle.mq_base.specs.Nodes.{cond_attributes}
use Rattle.row_algebra.specs.Rows.{RowOf, cut, product, IsOf}
use Rattle.row_algebra.specs.Tests.{Tests, meets_all}
use Rattle.row_algebra.specs.Groups.{function_of, grouped}
use Rattle.row_algebra.specs.Select.{selected}

-- whether a condition names only attributes that pass a test
abbrev pub names_only : (ℕ → Bool) → Cond → Bool
names_only test c = list_all test (cond_attributes c)

-- whether an item is the count or an attribute of the set
abbrev pub shows : ℕ → Item → Bool
shows set (item.Attr a) = has set a.0
shows set item.Count = true

-- the grouped attributes and those under a function are of the set
pub record GroupsWithin (group : ℕ) (aggs : List (AttrId × Agg)) (set : ℕ) : Type 0 where
  pub keys : (a : ℕ) → has group a ≡ true → has set a ≡ true
  pub made : (a : ℕ) (func : Agg) → function_of aggs a ≡ Some func → has set a ≡ true

-- each condition names only attributes that pass the test
abbrev pub AllName : (ℕ → Bool) → List Cond → Type 0
AllName test conds = AllByRecursion (λ c. names_only test c ≡ true) conds

-- no attribute passes both tests
abbrev pub AreApart : (ℕ → Bool) → (ℕ → Bool) → Type 0
AreApart left right = (a : ℕ) → left a ≡ true → right a ≡ false

-- conditions on what the left rows have, and the right rows have not, may be met before the product
abbrev pub FiltersLeft : Type 0 → Type 0
FiltersLeft C = (tests : Tests C) (left right : ℕ → Bool) → AreApart left right → (conds : List Cond) → AllName left conds
    → (us vs : List (RowOf C)) → AllByRecursion (IsOf right) vs
    → filter (meets_all tests conds) (product us vs) ≡ product (filter (meets_all tests conds) us) vs

-- and so on the right
abbrev pub FiltersRight : Type 0 → Type 0
FiltersRight C = (tests : Tests C) (left right : ℕ → Bool) → AreApart right left → (conds : List Cond)
    → AllName right conds → (us vs : List (RowOf C)) → AllByRecursion (IsOf left) us
    → filter (meets_all tests conds) (product us vs) ≡ product us (filter (meets_all tests conds) vs)

-- the conditions that pass one of two tests may be met in two turns
abbrev pub FiltersInParts : Type 0 → Type 0
FiltersInParts C = (tests : Tests C) (p q r : Cond → Bool) → ((c : Cond) → p c ≡ (q c || r c)) → (conds : List Cond)
    (rows : List (RowOf C))
    → filter (meets_all tests (filter r conds)) (filter (meets_all tests (filter q conds)) rows)
    ≡ filter (meets_all tests (filter p conds)) rows

-- a cut of a product is the product of cuts
abbrev pub CutsProduct : Type 0 → Type 0
CutsProduct C = (set : ℕ) (us vs : List (RowOf C))
    → map (cut set) (product us vs) ≡ product (map (cut set) us) (map (cut set) vs)

-- conditions on attributes of a set may be met before or after a cut to it
abbrev pub CutsFilter : Type 0 → Type 0
CutsFilter C = (tests : Tests C) (set : ℕ) (conds : List Cond) → AllName (has set) conds → (rows : List (RowOf C))
    → filter (meets_all tests conds) (map (cut set) rows) ≡ map (cut set) (filter (meets_all tests conds) rows)

-- groups by attributes of a set, and functions of such, see nothing of a cut to it
abbrev pub CutsGroup : Type 0 → Type 0
CutsGroup C = (tests : Tests C) (group : ℕ) (aggs : List (AttrId × Agg)) (counted : Bool) (set : ℕ)
    → GroupsWithin group aggs set → (rows : List (RowOf C))
    → grouped tests group aggs counted (map (cut set) rows) ≡ grouped tests group aggs counted rows

-- nor do selected attributes of it
abbrev pub CutsSelected : Type 0 → Type 0
CutsSelected C = (number : ℕ → C) (set : ℕ) (items : List Item) → AllByRecursion (λ i. shows set i ≡ true) items
    → (r : RowOf C) → selected number items (cut set r) ≡ selected number items r
