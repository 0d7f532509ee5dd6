-- What is gathered from the functions of a query is the first of each attribute, and its first fault is that of the rule, which
-- tests each function against all earlier ones.
use Rattle.std.proofs.Common.{◌≡◌, ℕ, Bool, true, false, not, ◌&&◌, List, [], ◌∷◌, ◌++◌, Option, Some, None, refl, sym, ap, ◌∙◌, append_assoc, get_or, arith}
use Rattle.std.specs.List.{AllPairs, list_any}
use Rattle.std.specs.Option.{option_or}
use Rattle.std.proofs.lemmas.Bool.{and_parts, and_from}
use Rattle.std.proofs.lemmas.List.{append-nil}
use Rattle.std.proofs.lemmas.List.Elements.{filter_map-append}
use Rattle.std.proofs.lemmas.List.Folds.{list_any_at}
use Rattle.std.proofs.lemmas.List.Quantifiers.{all_pairs_push}
use Rattle.base_laws.specs.Firsts.{first_behind}
use Rattle.base_laws.specs.Lists.{firsts}
use Rattle.base_laws.proofs.KindLaws.{any-firsts, firsts-push}
use Rattle.mq_base.specs.declared.ids.AttrId.{AttrId}
use Rattle.mq_base.specs.declared.query.Agg.{Agg}
use Rattle.mq_base.specs.declared.query.Agg.TheVariants as agg
use Rattle.mq_base.specs.declared.refusal.Refusal.{Refusal}
use Rattle.mq_base.specs.declared.schema.Schema.{Schema}
use Rattle.sql_reader.specs.Syntax.{Item, Literal, Plain, Aggregate, Count}
use Rattle.query_bind.specs.Bound.{aggregates, attribute, functions, item_function, same_attribute}
use Rattle.query_bind.specs.Faults.{is_under_another, item_fault, same_function, use_fault}
use Rattle.query_bind.specs.Lookup.{Use}
use Rattle.query_bind.specs.inside.Gathered.{aggs_after, gathered_fault, with_item}
use Rattle.query_bind.proofs.BoundUses.{IsNew, item_new, same-trans}

-- one attribute under two functions
abbrev clash : AttrId × Agg → AttrId × Agg → Bool
clash p q = same_attribute p q && not (same_function p.1 q.1)

-- each attribute of these stands under one function
abbrev AgreeAll : List (AttrId × Agg) → Type 0
AgreeAll fs = AllPairs (λ p q. clash p q ≡ false) fs

one_function : (f g h : Agg) → same_function f g ≡ true → not (same_function g h) ≡ true → not (same_function f h) ≡ true
one_function agg.Sum agg.Sum h same other = other
one_function agg.Min agg.Min h same other = other
one_function agg.Max agg.Max h same other = other
one_function agg.Sum agg.Min h same other = cc
one_function agg.Sum agg.Max h same other = cc
one_function agg.Min agg.Sum h same other = cc
one_function agg.Min agg.Max h same other = cc
one_function agg.Max agg.Sum h same other = cc
one_function agg.Max agg.Min h same other = cc

both_or_not : (a b : Bool) → (a && not b) ≡ false → a ≡ true → b ≡ true
both_or_not true true none is = refl
both_or_not true false none is = cc
both_or_not false b none is = cc

follows : (p q r : AttrId × Agg) → clash p q ≡ false → same_attribute p q ≡ true → clash q r ≡ true → clash p r ≡ true
follows p q r agree same is =
    let parts = and_parts (same_attribute q r) (not (same_function q.1 r.1)) is in
    and_from (same_attribute p r) (not (same_function p.1 r.1)) (same-trans p q r same parts.0)
    (one_function p.1 q.1 r.1 (both_or_not (same_attribute p q) (same_function p.1 q.1) agree same) parts.1)

-- another function stands among the gathered ones just where it stands among all
under_same : (a : AttrId) (func : Agg) (fs : List (AttrId × Agg)) → AgreeAll fs
    → is_under_another a func (firsts same_attribute fs) ≡ is_under_another a func fs
under_same a func fs agree =
    any-firsts same_attribute (λ e. clash e (a, func)) fs
    (λ i j d before below same is. follows (get_or fs i d) (get_or fs j d) (a, func) (agree i j d before below) same is)

same_item : (schema : Schema) (group : ℕ) (fs : List (AttrId × Agg)) (i : Item) (literal : Option Literal) → AgreeAll fs
    → item_fault schema group (firsts same_attribute fs) i literal ≡ item_fault schema group fs i literal
same_item schema group fs (Plain c) literal agree = refl
same_item schema group fs (Aggregate func c at) literal agree = rw (under_same (attribute schema c) func fs agree) refl
same_item schema group fs (Count at) literal agree = refl

-- the functions so far, with that of an item
noted : (schema : Schema) (fs : List (AttrId × Agg)) (i : Item) (literal : Option Literal)
    → with_item schema i (firsts same_attribute fs)
    ≡ firsts same_attribute (fs ++ functions schema (record { item = i; literal = literal } ∷ []))
noted schema fs (Plain c) literal = rw (append-nil fs) refl
noted schema fs (Aggregate func c at) literal = sym (firsts-push same_attribute same-trans fs (attribute schema c, func))
noted schema fs (Count at) literal = rw (append-nil fs) refl

none_at : (test : Bool) (whole : Bool) → whole ≡ false → (test ≡ true → whole ≡ true) → test ≡ false
none_at false whole none found = refl
none_at true whole none found = cc (found refl)

agree_more : (schema : Schema) (fs : List (AttrId × Agg)) (i : Item) (literal : Option Literal) → AgreeAll fs → IsNew schema fs i
    → AgreeAll (fs ++ functions schema (record { item = i; literal = literal } ∷ []))
agree_more schema fs (Plain c) literal agree new = rw (append-nil fs) agree
agree_more schema fs (Aggregate func c at) literal agree new =
    all_pairs_push (λ p q. clash p q ≡ false) fs (attribute schema c, func) agree
    (λ k d below. none_at (clash (get_or fs k d) (attribute schema c, func)) (list_any (λ e. clash e (attribute schema c, func)) fs) new
    (λ is. list_any_at (λ e. clash e (attribute schema c, func)) fs k d below is))
agree_more schema fs (Count at) literal agree new = rw (append-nil fs) agree

functions_more : (schema : Schema) (uses : List Use) (u : Use)
    → functions schema (uses ++ u ∷ []) ≡ functions schema uses ++ functions schema (u ∷ [])
functions_more schema uses u = filter_map-append (λ (v : Use). item_function schema v.item) uses (u ∷ [])

-- the first fault behind what is gathered is the first fault behind all that stands earlier
gathered_same : (schema : Schema) (group : ℕ) (earlier uses : List Use) → AgreeAll (functions schema earlier)
    → gathered_fault schema group (firsts same_attribute (functions schema earlier)) uses ≡ first_behind (use_fault schema group) earlier uses
gathered_same schema group earlier [] agree = refl
gathered_same schema group earlier (u ∷ rest) agree =
    let fs = functions schema earlier in
    rw (same_item schema group fs u.item u.literal agree)
    (by_fault (item_fault schema group fs u.item u.literal) refl
    (λ agree_then. gathered_same schema group (earlier ++ u ∷ []) rest (rw (functions_more schema earlier u) agree_then)))
  where
    by_fault : (found : Option Refusal) → item_fault schema group (functions schema earlier) u.item u.literal ≡ found
        → (AgreeAll (functions schema earlier ++ functions schema (u ∷ []))
        → gathered_fault schema group (firsts same_attribute (functions schema (earlier ++ u ∷ []))) rest
        ≡ first_behind (use_fault schema group) (earlier ++ u ∷ []) rest)
        → option_or found (gathered_fault schema group (with_item schema u.item (firsts same_attribute (functions schema earlier))) rest)
        ≡ option_or found (first_behind (use_fault schema group) (earlier ++ u ∷ []) rest)
    by_fault (Some fault) is later = refl
    by_fault None is later =
        let agree_then = agree_more schema (functions schema earlier) u.item u.literal agree
        (item_new schema group (functions schema earlier) u.item u.literal is) in
        rw (noted schema (functions schema earlier) u.item u.literal, ← functions_more schema earlier u) (later agree_then)

-- the first fault of all functions and counts
pub gathered-whole : (schema : Schema) (group : ℕ) (uses : List Use)
    → gathered_fault schema group [] uses ≡ first_behind (use_fault schema group) [] uses
gathered-whole schema group uses = gathered_same schema group [] uses (λ i j d before below. absurd (omega arith))

joined : (schema : Schema) (u : Use) (rest : List Use) → functions schema (u ∷ rest) ≡ functions schema (u ∷ []) ++ functions schema rest
joined schema u rest = filter_map-append (λ (v : Use). item_function schema v.item) (u ∷ []) rest

-- what is gathered is the first of each attribute
aggs_same : (schema : Schema) (fs : List (AttrId × Agg)) (uses : List Use)
    → aggs_after schema (firsts same_attribute fs) uses ≡ firsts same_attribute (fs ++ functions schema uses)
aggs_same schema fs [] = rw (append-nil fs) refl
aggs_same schema fs (u ∷ rest) =
    ap (λ aggs. aggs_after schema aggs rest) (noted schema fs u.item u.literal)
    ∙ aggs_same schema (fs ++ functions schema (u ∷ [])) rest
    ∙ rw (append_assoc, ← joined schema u rest) refl

pub aggs-whole : (schema : Schema) (uses : List Use) → aggs_after schema [] uses ≡ aggregates schema uses
aggs-whole schema uses = aggs_same schema [] uses
