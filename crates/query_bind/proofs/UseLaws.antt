-- Laws of the functions and counts of a query, taken one by one with those that stand earlier.
use Rattle.std.proofs.Common.{◌≡◌, ℕ, ◌+◌, ◌<◌, ◌≤◌, List, [], ◌∷◌, ◌++◌, map, length, get_or, drop, Option, Some, None, refl}
use Rattle.std.proofs.lemmas.List.{drop_more, drop_all}
use Rattle.std.specs.Option.{option_or}
use Rattle.mq_base.specs.declared.ids.AttrId.{AttrId}
use Rattle.mq_base.specs.declared.query.Agg.{Agg}
use Rattle.mq_base.specs.declared.refusal.Refusal.{Refusal}
use Rattle.mq_base.specs.declared.schema.Schema.{Schema}
use Rattle.query_bind.specs.Faults.{item_fault}
use Rattle.query_bind.specs.Lookup.{Use}
use Rattle.query_bind.specs.inside.Gathered.{aggs_after, gathered_fault, with_item}

-- past an item that has no fault
pub uses-more : {X : Type 0} (schema : Schema) (group : ℕ) (aggs after : List (AttrId × Agg)) (use_of : X → Use) (xs : List X) (i : ℕ) (d : X)
    → i < length xs → item_fault schema group aggs (use_of (get_or xs i d)).item (use_of (get_or xs i d)).literal ≡ None
    → after ≡ with_item schema (use_of (get_or xs i d)).item aggs
    → gathered_fault schema group aggs (map use_of (drop i xs)) ≡ gathered_fault schema group after (map use_of (drop (i + 1) xs))
uses-more schema group aggs after use_of xs i d below passes noted = rw (drop_more xs i d below, passes, noted) refl

pub uses-stop : {X : Type 0} (schema : Schema) (group : ℕ) (aggs : List (AttrId × Agg)) (use_of : X → Use) (xs : List X) (i : ℕ) (d : X) (fault : Refusal)
    → i < length xs → item_fault schema group aggs (use_of (get_or xs i d)).item (use_of (get_or xs i d)).literal ≡ Some fault
    → gathered_fault schema group aggs (map use_of (drop i xs)) ≡ Some fault
uses-stop schema group aggs use_of xs i d fault below found = rw (drop_more xs i d below, found) refl

pub uses-end : {X : Type 0} (schema : Schema) (group : ℕ) (aggs : List (AttrId × Agg)) (use_of : X → Use) (xs : List X) (i : ℕ)
    → length xs ≤ i → gathered_fault schema group aggs (map use_of (drop i xs)) ≡ None
uses-end schema group aggs use_of xs i past = rw (drop_all i xs past) refl

pub aggs-more : {X : Type 0} (schema : Schema) (aggs after : List (AttrId × Agg)) (use_of : X → Use) (xs : List X) (i : ℕ) (d : X)
    → i < length xs → after ≡ with_item schema (use_of (get_or xs i d)).item aggs
    → aggs_after schema aggs (map use_of (drop i xs)) ≡ aggs_after schema after (map use_of (drop (i + 1) xs))
aggs-more schema aggs after use_of xs i d below noted = rw (drop_more xs i d below, noted) refl

pub aggs-end : {X : Type 0} (schema : Schema) (aggs : List (AttrId × Agg)) (use_of : X → Use) (xs : List X) (i : ℕ)
    → length xs ≤ i → aggs_after schema aggs (map use_of (drop i xs)) ≡ aggs
aggs-end schema aggs use_of xs i past = rw (drop_all i xs past) refl

pub ruleset walks = (uses-more, uses-stop, uses-end, aggs-more, aggs-end)

-- joined lists
option_or-assoc : {F : Type 0} (a b c : Option F) → option_or a (option_or b c) ≡ option_or (option_or a b) c
option_or-assoc None b c = refl
option_or-assoc (Some fault) b c = refl

pub uses-append : (schema : Schema) (group : ℕ) (aggs : List (AttrId × Agg)) (left right : List Use)
    → gathered_fault schema group aggs (left ++ right)
    ≡ option_or (gathered_fault schema group aggs left) (gathered_fault schema group (aggs_after schema aggs left) right)
uses-append schema group aggs [] right = refl
uses-append schema group aggs (u ∷ rest) right =
    rw (uses-append schema group (with_item schema u.item aggs) rest right)
    (option_or-assoc (item_fault schema group aggs u.item u.literal) (gathered_fault schema group (with_item schema u.item aggs) rest)
    (gathered_fault schema group (aggs_after schema (with_item schema u.item aggs) rest) right))

pub aggs-append : (schema : Schema) (aggs : List (AttrId × Agg)) (left right : List Use)
    → aggs_after schema aggs (left ++ right) ≡ aggs_after schema (aggs_after schema aggs left) right
aggs-append schema aggs [] right = refl
aggs-append schema aggs (u ∷ rest) right = aggs-append schema (with_item schema u.item aggs) rest right

pub ruleset joins = (uses-append, aggs-append)
