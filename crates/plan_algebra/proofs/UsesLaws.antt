-- Which attributes are used: all that the query names, each in the list that names it.
use Rattle.std.proofs.Common.{◌≡◌, ◌≢◌, ℕ, ◌<◌, ◌==◌, Bool, true, false, ◌||◌, List, [], ◌∷◌, ◌++◌, All, refl, sym, ◌∙◌, ap}
use Rattle.std.specs.Prelude.{filter_map}
use Rattle.std.specs.List.{flat_map}
use Rattle.std.proofs.lemmas.Bool.{eqb-true, or_left, or_right}
use Rattle.std.proofs.lemmas.List.Elements.{All-cons, All-head, All-nil, All-tail, All-weaker}
use Rattle.base_laws.specs.Sets.{has, with_members, IsWithin}
use Rattle.base_laws.proofs.ListedLaws.{in_head, in_right, is_in}
use Rattle.base_laws.proofs.SetLaws.{has-empty, has-with_members}
use Rattle.mq_base.specs.declared.ids.AttrId.{AttrId}
use Rattle.mq_base.specs.declared.query.Cond.{Cond}
use Rattle.mq_base.specs.declared.query.Cond.TheVariants as cond
use Rattle.mq_base.specs.declared.query.Item.{Item}
use Rattle.mq_base.specs.declared.query.Item.TheVariants as item
use Rattle.mq_base.specs.declared.query.Query.{Query}
use Rattle.mq_base.specs.declared.schema.Schema.{Schema}
use Rattle.mq_base.specs.BoundQuery.{IsBoundCond}
use Rattle.mq_base.specs.Nodes.{aggregated, cond_attributes, item_attribute, selected_set, used_set}
use Rattle.mq_base.specs.Schema.{IsSchema}
use Rattle.plan_algebra.proofs.SmallLaws.{is_of_some-small}

-- the attributes of a condition are among these
abbrev IsNamedIn : List ℕ → Cond → Type 0
IsNamedIn members (cond.Const a op x) = is_in members a.0 ≡ true
IsNamedIn members (cond.Attrs a op b) = (is_in members a.0 ≡ true) × (is_in members b.0 ≡ true)

named_here : (c : Cond) (rest : List ℕ) → IsNamedIn (cond_attributes c ++ rest) c
named_here (cond.Const a op x) rest = in_head a.0 rest
named_here (cond.Attrs a op b) rest = (in_head a.0 (b.0 ∷ rest), or_right (a.0 == b.0) (is_in (b.0 ∷ rest) b.0) (in_head b.0 rest))

named_later : (first rest : List ℕ) (c : Cond) → IsNamedIn rest c → IsNamedIn (first ++ rest) c
named_later first rest (cond.Const a op x) named = in_right first rest a.0 named
named_later first rest (cond.Attrs a op b) named = (in_right first rest a.0 named.0, in_right first rest b.0 named.1)

all_named : (conds : List Cond) → All (IsNamedIn (flat_map cond_attributes conds)) conds
all_named [] = All-nil (IsNamedIn [])
all_named (c ∷ rest) =
    All-cons (IsNamedIn (cond_attributes c ++ flat_map cond_attributes rest)) c rest (named_here c (flat_map cond_attributes rest))
    (All-weaker (IsNamedIn (flat_map cond_attributes rest)) (IsNamedIn (cond_attributes c ++ flat_map cond_attributes rest))
    (named_later (cond_attributes c) (flat_map cond_attributes rest)) rest (all_named rest))

-- the parts of the used set
pub used-parts : (q : Query) (a : ℕ) → has (used_set q) a
    ≡ (((has q.group.0 a || is_in (filter_map item_attribute q.items) a) || is_in (flat_map cond_attributes q.conds) a) || is_in (aggregated q.aggs) a)
used-parts q a =
    let items = filter_map item_attribute q.items in
    let conds = flat_map cond_attributes q.conds in
    let third = has-with_members (with_members (with_members q.group.0 items) conds) (aggregated q.aggs) a in
    let second = has-with_members (with_members q.group.0 items) conds a in
    let first = has-with_members q.group.0 items a in
    third ∙ ap (λ s. s || is_in (aggregated q.aggs) a) (second ∙ ap (λ s. s || is_in conds a) first)

pub used-group : (q : Query) (a : ℕ) → has q.group.0 a ≡ true → has (used_set q) a ≡ true
used-group q a inside = used-parts q a ∙ or_left _ _ (or_left _ _ (or_left _ _ inside))

pub used-item : (q : Query) (a : ℕ) → is_in (filter_map item_attribute q.items) a ≡ true → has (used_set q) a ≡ true
used-item q a inside = used-parts q a ∙ or_left _ _ (or_left _ _ (or_right _ _ inside))

used-in_cond : (q : Query) (a : ℕ) → is_in (flat_map cond_attributes q.conds) a ≡ true → has (used_set q) a ≡ true
used-in_cond q a inside = used-parts q a ∙ or_left _ _ (or_right _ _ inside)

pub used-agg : (q : Query) (a : ℕ) → is_in (aggregated q.aggs) a ≡ true → has (used_set q) a ≡ true
used-agg q a inside = used-parts q a ∙ or_right _ _ inside

-- a condition of the query: its attributes are used, below 64, and two of them are not one
pub record IsUsed (q : Query) (a : AttrId) : Type 0 where
  pub small : a.0 < 64
  pub used : has (used_set q) a.0 ≡ true

abbrev pub IsUsedCond : Query → Cond → Type 0
IsUsedCond q (cond.Const a op x) = IsUsed q a
IsUsedCond q (cond.Attrs a op b) = IsUsed q a × IsUsed q b × (a ≢ b)

used_cond : (schema : Schema) (q : Query) → IsSchema schema → (c : Cond) → IsBoundCond schema q.tables c
    → IsNamedIn (flat_map cond_attributes q.conds) c → IsUsedCond q c
used_cond schema q ok (cond.Const a op x) bound named =
    record { small = is_of_some-small schema q.tables a ok bound.0; used = used-in_cond q a.0 named }
used_cond schema q ok (cond.Attrs a op b) bound named = (
  record { small = is_of_some-small schema q.tables a ok bound.0; used = used-in_cond q a.0 named.0 },
  record { small = is_of_some-small schema q.tables b ok bound.1; used = used-in_cond q b.0 named.1 },
  bound.2,
)

pub all_used : (schema : Schema) (q : Query) → IsSchema schema → All (IsBoundCond schema q.tables) q.conds → All (IsUsedCond q) q.conds
all_used schema q ok bound = λ k d below. used_cond schema q ok _ (bound k d below) (all_named q.conds k d below)

-- an item's attribute, where it has one, is a member
abbrev pub IsItemOf : ℕ → Item → Type 0
IsItemOf set (item.Attr a) = has set a.0 ≡ true
IsItemOf set item.Count = Unit {0}

item_inside : (set a : ℕ) (items : List Item) → All (IsItemOf set) items → is_in (filter_map item_attribute items) a ≡ true → has set a ≡ true
item_inside set a [] all inside = cc
item_inside set a (item.Count ∷ rest) all inside = item_inside set a rest (All-tail (IsItemOf set) item.Count rest all) inside
item_inside set a (item.Attr b ∷ rest) all inside =
    by_test (b.0 == a) refl inside (item_inside set a rest (All-tail (IsItemOf set) (item.Attr b) rest all))
    (All-head (IsItemOf set) (item.Attr b) rest all)
  where
    by_test : (t : Bool) → (b.0 == a) ≡ t → (t || is_in (filter_map item_attribute rest) a) ≡ true
        → (is_in (filter_map item_attribute rest) a ≡ true → has set a ≡ true) → has set b.0 ≡ true → has set a ≡ true
    by_test true same here later member = rw (eqb-true b.0 a same) at member
    by_test false other here later member = later here

-- the selected attributes are within a set that each item's attribute is a member of
pub selected-within : (set : ℕ) (items : List Item) → All (IsItemOf set) items → IsWithin (selected_set items) set
selected-within set items all = record { member = λ a inside. item_inside set a items all (listed a inside) }
  where
    without_first : (x y : Bool) → x ≡ false → (x || y) ≡ true → y ≡ true
    without_first true y none holds = cc
    without_first false y none holds = holds

    listed : (a : ℕ) → has (selected_set items) a ≡ true → is_in (filter_map item_attribute items) a ≡ true
    listed a inside =
        let parts = has-with_members 0 (filter_map item_attribute items) a in
        let none = has-empty a in
        without_first (has 0 a) (is_in (filter_map item_attribute items) a) none (sym parts ∙ inside)

-- each item's attribute is listed
pub all_items : (items : List Item) → All (λ i. (a : AttrId) → i ≡ item.Attr a → is_in (filter_map item_attribute items) a.0 ≡ true) items
all_items [] = All-nil (λ i. (a : AttrId) → i ≡ item.Attr a → is_in [] a.0 ≡ true)
all_items (i ∷ rest) =
    All-cons (λ j. (a : AttrId) → j ≡ item.Attr a → is_in (filter_map item_attribute (i ∷ rest)) a.0 ≡ true) i rest
    (λ a same. rw same (in_head a.0 (filter_map item_attribute rest)))
    (All-weaker (λ j. (a : AttrId) → j ≡ item.Attr a → is_in (filter_map item_attribute rest) a.0 ≡ true)
    (λ j. (a : AttrId) → j ≡ item.Attr a → is_in (filter_map item_attribute (i ∷ rest)) a.0 ≡ true)
    (λ j inside a same. past i a.0 rest (inside a same)) rest (all_items rest))
  where
    past : (i : Item) (a : ℕ) (rest : List Item) → is_in (filter_map item_attribute rest) a ≡ true
        → is_in (filter_map item_attribute (i ∷ rest)) a ≡ true
    past (item.Attr b) a rest inside = or_right (b.0 == a) (is_in (filter_map item_attribute rest) a) inside
    past item.Count a rest inside = inside
