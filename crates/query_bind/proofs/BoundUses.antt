-- The functions of a query: each that stands in it is listed, each listed one stands in it, and none is listed twice.
use Rattle.std.proofs.Common.{◌≡◌, ◌≢◌, ℕ, zero, suc, ◌==◌, Bool, true, false, ◌||◌, List, [], ◌∷◌, ◌++◌, map, All, Option, Some, None, refl, ap, ◌∙◌, get_or}
use Rattle.std.specs.List.{AllPairs, list_any}
use Rattle.std.proofs.lemmas.Bool.{or_parts, eqb-true, eqb-false, eq-eqb}
use Rattle.std.proofs.lemmas.List.Elements.{All-nil, All-cons, All-head, All-tail, All-map}
use Rattle.std.proofs.lemmas.List.Folds.{list_any_at}
use Rattle.base_laws.specs.Firsts.{first_behind}
use Rattle.base_laws.specs.Lists.{firsts}
use Rattle.base_laws.specs.Sets.{has}
use Rattle.base_laws.proofs.FirstLaws.{none_left}
use Rattle.base_laws.proofs.KindLaws.{All-firsts, any-firsts, firsts-apart, pairs-head, pairs-tail}
use Rattle.mq_base.specs.declared.ids.AttrId.{AttrId}
use Rattle.mq_base.specs.declared.query.Agg.{Agg}
use Rattle.mq_base.specs.declared.schema.Schema.{Schema}
use Rattle.mq_base.specs.BoundQuery.{AreDistinct, IsAggregated}
use Rattle.sql_reader.specs.Syntax.{Column, Literal, Item, Plain, Aggregate, Count}
use Rattle.query_bind.specs.declared.refusal.BindCode.TheVariants.{TypeMismatch, TextTooLong, AggregateOfGrouped, RepeatedAggregate}
use Rattle.query_bind.specs.Lookup.{attribute_of, Use}
use Rattle.query_bind.specs.Bound.{aggregates, attribute, functions, same_attribute}
use Rattle.query_bind.specs.Faults.{fault_if, is_no_sum, is_mistyped, is_long_literal, is_under_another, function_fault, item_fault, use_fault}
use Rattle.query_bind.specs.inside.Gathered.{is_listed}
use Rattle.query_bind.proofs.BoundParts.{passed}

-- a function over a column that passes
pub record FunctionPasses (schema : Schema) (group : ℕ) (func : Agg) (c : Column) (literal : Option Literal) : Type 0 where
  pub ungrouped : has group (attribute_of schema c) ≡ false
  pub summable : is_no_sum schema func c ≡ false
  pub typed : is_mistyped schema c literal ≡ false
  pub short : is_long_literal literal ≡ false

abbrev pub ItemPasses : Schema → ℕ → Item → Option Literal → Type 0
ItemPasses schema group (Plain c) literal = Unit {0}
ItemPasses schema group (Aggregate func c at) literal = FunctionPasses schema group func c literal
ItemPasses schema group (Count at) literal = Unit {0}

function_passes : (schema : Schema) (group : ℕ) (earlier : List (AttrId × Agg)) (func : Agg) (c : Column) (at : ℕ) (literal : Option Literal)
    → function_fault schema group earlier func c at literal ≡ None
    → FunctionPasses schema group func c literal × (is_under_another (attribute schema c) func earlier ≡ false)
function_passes schema group earlier func c at literal none =
    let first = none_left (fault_if (has group (attribute_of schema c)) AggregateOfGrouped at) _ none in
    let second = none_left (fault_if (is_no_sum schema func c || is_mistyped schema c literal) TypeMismatch at) _ first.1 in
    let third = none_left (fault_if (is_long_literal literal) TextTooLong at)
    (fault_if (is_under_another (attribute schema c) func earlier) RepeatedAggregate at) second.1 in
    let types = or_parts (is_no_sum schema func c) (is_mistyped schema c literal) (passed _ TypeMismatch at second.0) in (
      record {
        ungrouped = passed _ AggregateOfGrouped at first.0;
        summable = types.0;
        typed = types.1;
        short = passed _ TextTooLong at third.0;
      },
      passed _ RepeatedAggregate at third.1,
    )

item_passes : (schema : Schema) (group : ℕ) (earlier : List (AttrId × Agg)) (i : Item) (literal : Option Literal)
    → item_fault schema group earlier i literal ≡ None → ItemPasses schema group i literal
item_passes schema group earlier (Plain c) literal none = tt
item_passes schema group earlier (Aggregate func c at) literal none = (function_passes schema group earlier func c at literal none).0
item_passes schema group earlier (Count at) literal none = tt

-- what holds of the function of an item, where it is one
abbrev pub ItemGives : (AttrId × Agg → Type 0) → Schema → Item → Type 0
ItemGives P schema (Plain c) = Unit {0}
ItemGives P schema (Aggregate func c at) = P (attribute schema c, func)
ItemGives P schema (Count at) = Unit {0}

-- where an item has no fault, its column stands under no other function of these
abbrev pub IsNew : Schema → List (AttrId × Agg) → Item → Type 0
IsNew schema earlier i = ItemGives (λ p. is_under_another p.0 p.1 earlier ≡ false) schema i

pub item_new : (schema : Schema) (group : ℕ) (earlier : List (AttrId × Agg)) (i : Item) (literal : Option Literal)
    → item_fault schema group earlier i literal ≡ None → IsNew schema earlier i
item_new schema group earlier (Plain c) literal none = tt
item_new schema group earlier (Aggregate func c at) literal none = (function_passes schema group earlier func c at literal none).1
item_new schema group earlier (Count at) literal none = tt

-- where the uses have no fault, each of them passes
pub uses_pass : (schema : Schema) (group : ℕ) (earlier uses : List Use) → first_behind (use_fault schema group) earlier uses ≡ None
    → All (λ (u : Use). ItemPasses schema group u.item u.literal) uses
uses_pass schema group earlier [] none = All-nil (λ (u : Use). ItemPasses schema group u.item u.literal)
uses_pass schema group earlier (u ∷ rest) none =
    let parts = none_left (use_fault schema group earlier u) (first_behind (use_fault schema group) (earlier ++ u ∷ []) rest) none in
    All-cons (λ (v : Use). ItemPasses schema group v.item v.literal) u rest
    (item_passes schema group (functions schema earlier) u.item u.literal parts.0) (uses_pass schema group (earlier ++ u ∷ []) rest parts.1)

-- what holds of each use holds of each function, and the other way round
given_one : (P : AttrId × Agg → Type 0) (schema : Schema) (i : Item) (literal : Option Literal) (rest : List Use) → ItemGives P schema i
    → All P (functions schema rest) → All P (functions schema (record { item = i; literal = literal } ∷ rest))
given_one P schema (Plain c) literal rest here later = later
given_one P schema (Aggregate func c at) literal rest here later = All-cons P (attribute schema c, func) (functions schema rest) here later
given_one P schema (Count at) literal rest here later = later

functions_given : (P : AttrId × Agg → Type 0) (schema : Schema) (uses : List Use) → All (λ (u : Use). ItemGives P schema u.item) uses
    → All P (functions schema uses)
functions_given P schema [] given = All-nil P
functions_given P schema (u ∷ rest) given =
    given_one P schema u.item u.literal rest (All-head (λ (v : Use). ItemGives P schema v.item) u rest given)
    (functions_given P schema rest (All-tail (λ (v : Use). ItemGives P schema v.item) u rest given))

-- what the function of an item, and those behind it, have
pub record Gives (P : AttrId × Agg → Type 0) (schema : Schema) (i : Item) (rest : List Use) : Type 0 where
  pub here : ItemGives P schema i
  pub later : All P (functions schema rest)

taken_one : (P : AttrId × Agg → Type 0) (schema : Schema) (i : Item) (literal : Option Literal) (rest : List Use)
    → All P (functions schema (record { item = i; literal = literal } ∷ rest)) → Gives P schema i rest
taken_one P schema (Plain c) literal rest all = record { here = tt; later = all }
taken_one P schema (Aggregate func c at) literal rest all = record {
  here = All-head P (attribute schema c, func) (functions schema rest) all;
  later = All-tail P (attribute schema c, func) (functions schema rest) all;
}
taken_one P schema (Count at) literal rest all = record { here = tt; later = all }

uses_given : (P : AttrId × Agg → Type 0) (schema : Schema) (uses : List Use) → All P (functions schema uses)
    → All (λ (u : Use). ItemGives P schema u.item) uses
uses_given P schema [] all = All-nil (λ (u : Use). ItemGives P schema u.item)
uses_given P schema (u ∷ rest) all =
    let parts = taken_one P schema u.item u.literal rest all in
    All-cons (λ (v : Use). ItemGives P schema v.item) u rest parts.here (uses_given P schema rest parts.later)

-- what holds of each function that stands in a query holds of each listed one
pub aggs_all : (P : AttrId × Agg → Type 0) (schema : Schema) (uses : List Use) → All (λ (u : Use). ItemGives P schema u.item) uses
    → All P (aggregates schema uses)
aggs_all P schema uses given = All-firsts P same_attribute (functions schema uses) (functions_given P schema uses given)

-- one attribute
pub same-trans : (p q r : AttrId × Agg) → same_attribute p q ≡ true → same_attribute q r ≡ true → same_attribute p r ≡ true
same-trans p q r first second =
    eq-eqb p.0.0 r.0.0 (eqb-true p.0.0 q.0.0 first ∙ eqb-true q.0.0 r.0.0 second)

-- the attribute of an item under a function is listed
abbrev pub IsListedItem : Schema → List (AttrId × Agg) → Item → Type 0
IsListedItem schema aggs i = ItemGives (λ p. is_listed p.0 aggs ≡ true) schema i

listed : (fs : List (AttrId × Agg)) (p : AttrId × Agg) → list_any (λ e. same_attribute e p) fs ≡ true
    → is_listed p.0 (firsts same_attribute fs) ≡ true
listed fs p stands =
    any-firsts same_attribute (λ e. same_attribute e p) fs
    (λ i j d before below same is. same-trans (get_or fs i d) (get_or fs j d) p same is)
    ∙ stands

pub uses_listed : (schema : Schema) (uses : List Use) → All (λ (u : Use). IsListedItem schema (aggregates schema uses) u.item) uses
uses_listed schema uses =
    let fs = functions schema uses in
    uses_given (λ p. is_listed p.0 (aggregates schema uses) ≡ true) schema uses
    (λ k d below. listed fs (get_or fs k d)
    (list_any_at (λ e. same_attribute e (get_or fs k d)) fs k d below (eq-eqb (get_or fs k d).0.0 (get_or fs k d).0.0 refl)))

-- a listed attribute stands under a function
abbrev under : Agg → ℕ → AttrId × Agg
under func a = (record { 0 = a }, func)

pub aggregated_if_listed : (a : AttrId) (aggs : List (AttrId × Agg)) → is_listed a aggs ≡ true → IsAggregated aggs a
aggregated_if_listed a [] listed = cc
aggregated_if_listed a (p ∷ rest) listed = by_head (p.0.0 == a.0) refl listed (aggregated_if_listed a rest)
  where
    by_head : (b : Bool) → (p.0.0 == a.0) ≡ b → (b || is_listed a rest) ≡ true → (is_listed a rest ≡ true → IsAggregated rest a)
        → IsAggregated (p ∷ rest) a
    by_head true same either later = (p.1, zero, ap (λ k. Some (under p.1 k)) (eqb-true p.0.0 a.0 same))
    by_head false other either later = let found = later either in (found.0, suc found.1, found.2)

-- no attribute is listed twice
once : (fs : List (AttrId × Agg)) → AllPairs (λ p q. same_attribute p q ≡ false) fs → AreDistinct (map (λ p. p.0.0) fs)
once [] pairs = tt
once (p ∷ rest) pairs =
    let others = pairs-head (λ p q. same_attribute p q ≡ false) p rest pairs in (
      All-map (λ y. p.0.0 ≢ y) (λ (q : AttrId × Agg). q.0.0) rest (λ k d below. eqb-false p.0.0 (get_or rest k d).0.0 (others k d below)),
      once rest (pairs-tail (λ p q. same_attribute p q ≡ false) p rest pairs),
    )

pub aggs_once : (schema : Schema) (uses : List Use) → AreDistinct (map (λ p. p.0.0) (aggregates schema uses))
aggs_once schema uses = once (aggregates schema uses) (firsts-apart same_attribute (functions schema uses))
