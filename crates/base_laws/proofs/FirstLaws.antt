-- Laws of the first fault: what a search for it keeps from place to place, and what it finds.
use Rattle.std.proofs.Common.{◌≡◌, ℕ, zero, suc, ◌+◌, ◌-◌, ◌<◌, ◌≤◌, Option, Some, None, List, [], ◌∷◌, ◌++◌, length, get_or, take, drop, map, flat_map, All, refl, arith, add-one, ◌⊎◌, inl, inr}
use Rattle.std.specs.Option.{option_or}
use Rattle.std.proofs.lemmas.List.{drop_all, drop_more, map-append, map_more}
use Rattle.std.proofs.lemmas.List.Elements.{All-nil, All-cons}
use Rattle.base_laws.specs.Firsts.{first_at, first_behind, first_of, IsFirstAt, IsTold}

-- where a place passes, the places after it decide
pub first_at-more : {F : Type 0} (test : ℕ → Option F) (at n : ℕ) → at < n → test at ≡ None
    → first_at test at (n - at) ≡ first_at test (at + 1) (n - (at + 1))
first_at-more test at n below passes =
    let left : n - at ≡ suc (n - (at + 1)) = omega arith in
    rw (left, passes, add-one)

-- where a place has a fault, that is the first
pub first_at-stop : {F : Type 0} (test : ℕ → Option F) (at n : ℕ) (fault : F) → at < n → test at ≡ Some fault
    → first_at test at (n - at) ≡ Some fault
first_at-stop test at n fault below found =
    let left : n - at ≡ suc (n - (at + 1)) = omega arith in
    rw (left, found)

-- where no place is left, there is no fault
pub first_at-end : {F : Type 0} (test : ℕ → Option F) (at n : ℕ) → n ≤ at → first_at test at (n - at) ≡ None
first_at-end test at n none_left =
    let left : n - at ≡ 0 = omega arith in
    rw left

this_or_later : (k start : ℕ) → start ≤ k → (k ≡ start) ⊎ (suc start ≤ k)
this_or_later k start low = grind arith

-- what holds at the first place and at every later one holds at each
at_each : (P : ℕ → Type 0) (start k : ℕ) → start ≤ k → P start → (suc start ≤ k → P k) → P k
at_each P start k low here later = by_place (this_or_later k start low)
  where
    by_place : (k ≡ start) ⊎ (suc start ≤ k) → P k
    by_place (inl same) = rw same here
    by_place (inr after) = later after

-- where there is no fault at all, neither part has one
pub none_left : {F : Type 0} (here rest : Option F) → option_or here rest ≡ None → (here ≡ None) × (rest ≡ None)
none_left None rest none = (refl, none)
none_left (Some fault) rest none = cc

-- where no place has a fault, each of them passes
pub first_at-none : {F : Type 0} (test : ℕ → Option F) (start n : ℕ) → first_at test start n ≡ None
    → (k : ℕ) → start ≤ k → k < start + n → test k ≡ None
first_at-none test start zero none k low high = absurd (omega arith)
first_at-none test start (suc n) none k low high =
    let parts = none_left (test start) (first_at test (suc start) n) none in
    at_each (λ k. test k ≡ None) start k low parts.0 (λ after. first_at-none test (suc start) n parts.1 k after (omega arith))

found_later : {F : Type 0} (test : ℕ → Option F) (start n : ℕ) (fault : F) → test start ≡ None
    → IsFirstAt test (suc start) n fault → IsFirstAt test start (suc n) fault
found_later test start n fault passes first = record {
  place = first.place;
  from = (let h : suc start ≤ first.place = first.from in omega arith);
  below = (let h : first.place < suc start + n = first.below in omega arith);
  found = first.found;
  before = λ k low high. at_each (λ k. test k ≡ None) start k low passes (λ after. first.before k after high);
}

found_here : {F : Type 0} (test : ℕ → Option F) (start n : ℕ) (fault : F) → test start ≡ Some fault
    → IsFirstAt test start (suc n) fault
found_here test start n fault found = record {
  place = start;
  from = omega arith;
  below = omega arith;
  found = found;
  before = λ k low high. absurd (omega arith);
}

one_of_both : {F : Type 0} (here rest : Option F) (fault : F) → option_or here rest ≡ Some fault
    → (here ≡ Some fault) ⊎ ((here ≡ None) × (rest ≡ Some fault))
one_of_both None rest fault found = inr (refl, found)
one_of_both (Some first) rest fault found = inl found

-- a first fault stands at a place, and every place before it passes
pub first_at-some : {F : Type 0} (test : ℕ → Option F) (start n : ℕ) (fault : F) → first_at test start n ≡ Some fault
    → IsFirstAt test start n fault
first_at-some test start zero fault found = cc
first_at-some test start (suc n) fault found =
    by_place (one_of_both (test start) (first_at test (suc start) n) fault found) (first_at-some test (suc start) n fault)
  where
    by_place : (test start ≡ Some fault) ⊎ ((test start ≡ None) × (first_at test (suc start) n ≡ Some fault))
        → (first_at test (suc start) n ≡ Some fault → IsFirstAt test (suc start) n fault)
        → IsFirstAt test start (suc n) fault
    by_place (inl here) later = found_here test start n fault here
    by_place (inr after) later = found_later test start n fault after.0 (later after.1)

-- where no member of a list has a fault, each of them passes
pub first_of-none : {A F : Type 0} (test : A → Option F) (xs : List A) → first_of (map test xs) ≡ None
    → All (λ x. test x ≡ None) xs
first_of-none test [] none = All-nil (λ x. test x ≡ None)
first_of-none test (x ∷ xs) none =
    let parts = none_left (test x) (first_of (map test xs)) none in
    All-cons (λ y. test y ≡ None) x xs parts.0 (first_of-none test xs parts.1)

-- what is told of a part is told of the whole, where the first fault of the part is that of the whole
pub told-on : {F : Type 0} (told part whole : Option F) → ((fault : F) → part ≡ Some fault → whole ≡ Some fault)
    → IsTold told part → IsTold told whole
told-on None part whole on is = tt
told-on (Some fault) part whole on is = on fault is

-- the first fault of joined lists
pub first_of-append : {F : Type 0} (left right : List (Option F)) → first_of (left ++ right) ≡ option_or (first_of left) (first_of right)
first_of-append [] right = refl
first_of-append (None ∷ rest) right = first_of-append rest right
first_of-append (Some fault ∷ rest) right = refl

pub first-append : {X F : Type 0} (test : X → Option F) (left right : List X)
    → first_of (map test (left ++ right)) ≡ option_or (first_of (map test left)) (first_of (map test right))
first-append test left right = rw (map-append test left right) (first_of-append (map test left) (map test right))

-- past an item that passes, the items after it decide; one that does not has the first fault
pub one-more : {X Y F : Type 0} (test : Y → Option F) (plain : X → Y) (xs : List X) (i : ℕ) (d : X)
    → i < length xs → test (plain (get_or xs i d)) ≡ None
    → first_of (map test (map plain (drop i xs))) ≡ first_of (map test (map plain (drop (i + 1) xs)))
one-more test plain xs i d below passes = rw (drop_more xs i d below, passes) refl

pub one-stop : {X Y F : Type 0} (test : Y → Option F) (plain : X → Y) (xs : List X) (i : ℕ) (d : X) (fault : F)
    → i < length xs → test (plain (get_or xs i d)) ≡ Some fault
    → first_of (map test (map plain (drop i xs))) ≡ Some fault
one-stop test plain xs i d fault below found = rw (drop_more xs i d below, found) refl

pub one-end : {X Y F : Type 0} (test : Y → Option F) (plain : X → Y) (xs : List X) (i : ℕ)
    → length xs ≤ i → first_of (map test (map plain (drop i xs))) ≡ None
one-end test plain xs i past = rw (drop_all i xs past) refl

-- the same where each item has parts, which are tested
pub pieces-more : {X Y F : Type 0} (test : Y → Option F) (parts : X → List Y) (xs : List X) (i : ℕ) (d : X)
    → i < length xs → first_of (map test (parts (get_or xs i d))) ≡ None
    → first_of (map test (flat_map parts (drop i xs))) ≡ first_of (map test (flat_map parts (drop (i + 1) xs)))
pieces-more test parts xs i d below passes =
    rw (drop_more xs i d below, first-append test (parts (get_or xs i d)) (flat_map parts (drop (i + 1) xs)), passes) refl

pub pieces-stop : {X Y F : Type 0} (test : Y → Option F) (parts : X → List Y) (xs : List X) (i : ℕ) (d : X) (fault : F)
    → i < length xs → first_of (map test (parts (get_or xs i d))) ≡ Some fault
    → first_of (map test (flat_map parts (drop i xs))) ≡ Some fault
pieces-stop test parts xs i d fault below found =
    rw (drop_more xs i d below, first-append test (parts (get_or xs i d)) (flat_map parts (drop (i + 1) xs)), found) refl

pub pieces-end : {X Y F : Type 0} (test : Y → Option F) (parts : X → List Y) (xs : List X) (i : ℕ)
    → length xs ≤ i → first_of (map test (flat_map parts (drop i xs))) ≡ None
pieces-end test parts xs i past = rw (drop_all i xs past) refl

-- the same where each item is tested behind those before it
pub behind-more : {X Y F : Type 0} (test : List Y → Y → Option F) (plain : X → Y) (xs : List X) (i : ℕ) (d : X)
    → i < length xs → test (map plain (take i xs)) (plain (get_or xs i d)) ≡ None
    → first_behind test (map plain (take i xs)) (map plain (drop i xs))
    ≡ first_behind test (map plain (take (i + 1) xs)) (map plain (drop (i + 1) xs))
behind-more test plain xs i d below passes = rw (drop_more xs i d below, passes, map_more plain xs i d below) refl

pub behind-stop : {X Y F : Type 0} (test : List Y → Y → Option F) (plain : X → Y) (xs : List X) (i : ℕ) (d : X) (fault : F)
    → i < length xs → test (map plain (take i xs)) (plain (get_or xs i d)) ≡ Some fault
    → first_behind test (map plain (take i xs)) (map plain (drop i xs)) ≡ Some fault
behind-stop test plain xs i d fault below found = rw (drop_more xs i d below, found) refl

pub behind-end : {X Y F : Type 0} (test : List Y → Y → Option F) (plain : X → Y) (xs : List X) (i : ℕ)
    → length xs ≤ i → first_behind test (map plain (take i xs)) (map plain (drop i xs)) ≡ None
behind-end test plain xs i past = rw (drop_all i xs past) refl
