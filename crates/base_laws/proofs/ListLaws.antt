-- Laws of lists: what holds of each member of a list that is made of lists, and of the place that a test finds.
use Rattle.std.proofs.Common.{◌≡◌, ℕ, suc, ◌<◌, ◌≤◌, Bool, true, false, cond, List, [], ◌∷◌, ◌++◌, length, map, filter, filter_map, flat_map, position, All, Option, Some, None, arith, refl}
use Rattle.std.specs.List.{list_any, cons_option}
use Rattle.std.proofs.lemmas.List.Elements.{All-nil, All-cons, All-head, All-tail, All-append}
use Rattle.std.proofs.lemmas.List.Folds.{list_any_at}
use Rattle.std.proofs.lemmas.List.Quantifiers.{position-Some}

-- the place that a test finds is one of the list
pub position-below : {X : Type 0} (test : X → Bool) (xs : List X) (place : ℕ) → position test xs ≡ Some place → place < length xs
position-below test [] place found = cc
position-below test (x ∷ xs) place found = (position-Some test (x ∷ xs) place x found).0

-- what holds of each member of both lists, and of each piece of a list of lists
pub All-first : {X : Type 0} (P : X → Type 0) (xs ys : List X) → All P (xs ++ ys) → All P xs
All-first P [] ys all = All-nil P
All-first P (x ∷ xs) ys all =
    All-cons P x xs (All-head P x (xs ++ ys) all) (All-first P xs ys (All-tail P x (xs ++ ys) all))

pub All-second : {X : Type 0} (P : X → Type 0) (xs ys : List X) → All P (xs ++ ys) → All P ys
All-second P [] ys all = all
All-second P (x ∷ xs) ys all = All-second P xs ys (All-tail P x (xs ++ ys) all)

pub All-pieces : {A X : Type 0} (P : X → Type 0) (f : A → List X) (xs : List A) → All P (flat_map f xs)
    → All (λ x. All P (f x)) xs
All-pieces P f [] all = All-nil (λ x. All P (f x))
All-pieces P f (x ∷ xs) all =
    All-cons (λ y. All P (f y)) x xs (All-first P (f x) (flat_map f xs) all)
    (All-pieces P f xs (All-second P (f x) (flat_map f xs) all))

pub All-flat_map : {A X : Type 0} (P : X → Type 0) (f : A → List X) (xs : List A) → All (λ x. All P (f x)) xs
    → All P (flat_map f xs)
All-flat_map P f [] all = All-nil P
All-flat_map P f (x ∷ xs) all =
    All-append P (f x) (flat_map f xs) (All-head (λ y. All P (f y)) x xs all)
    (All-flat_map P f xs (All-tail (λ y. All P (f y)) x xs all))

-- what holds of each member that a function gives
pub All-unmapped : {A X : Type 0} (P : X → Type 0) (f : A → X) (xs : List A) → All P (map f xs) → All (λ x. P (f x)) xs
All-unmapped P f [] all = All-nil (λ x. P (f x))
All-unmapped P f (x ∷ xs) all =
    All-cons (λ y. P (f y)) x xs (All-head P (f x) (map f xs) all) (All-unmapped P f xs (All-tail P (f x) (map f xs) all))

-- a member that passes a test shows that some member does
pub list_any-each : {X : Type 0} (test : X → Bool) (xs : List X) → All (λ x. test x ≡ true → list_any test xs ≡ true) xs
list_any-each test xs place other below passes = list_any_at test xs place other below passes

-- a list does not grow where members are left out
pub filter-length : {X : Type 0} (p : X → Bool) (xs : List X) → length (filter p xs) ≤ length xs
filter-length p [] = omega arith
filter-length p (x ∷ xs) = by_test (p x) (filter-length p xs)
  where
    by_test : (b : Bool) → length (filter p xs) ≤ length xs → length (cond b (x ∷ filter p xs) (filter p xs)) ≤ suc (length xs)
    by_test true rest = omega arith
    by_test false rest = omega arith

pub filter_map-length : {X Y : Type 0} (f : X → Option Y) (xs : List X) → length (filter_map f xs) ≤ length xs
filter_map-length f [] = omega arith
filter_map-length {Y = Y} f (x ∷ xs) = by_value (f x) (filter_map-length f xs)
  where
    by_value : (o : Option Y) → length (filter_map f xs) ≤ length xs → length (cons_option o (filter_map f xs)) ≤ suc (length xs)
    by_value None rest = omega arith
    by_value (Some y) rest = omega arith

-- the pieces of what a function gives
pub flat_map-map : {A X Y : Type 0} (f : X → List Y) (g : A → X) (xs : List A) → flat_map f (map g xs) ≡ flat_map (λ x. f (g x)) xs
flat_map-map f g [] = refl
flat_map-map f g (x ∷ xs) = rw (flat_map-map f g xs) refl
