-- Laws of the numbers of a list.
use Rattle.std.proofs.Common.{◌≡◌, ℕ, ◌==◌, Bool, true, false, ◌||◌, List, [], ◌∷◌, ◌++◌, map, All, refl}
use Rattle.std.specs.List.{list_any}
use Rattle.std.proofs.lemmas.Bool.{eq-eqb, eqb-true, or_left, or_right}
use Rattle.std.proofs.lemmas.List.Elements.{All-cons, All-head, All-nil, All-tail, All-weaker}

-- whether a number is one of a list
abbrev pub is_in : List ℕ → ℕ → Bool
is_in xs a = list_any (λ k. k == a) xs

-- a number of either list is one of both, and the first one is
pub in_left : (xs ys : List ℕ) (a : ℕ) → is_in xs a ≡ true → is_in (xs ++ ys) a ≡ true
in_left [] ys a inside = cc
in_left (x ∷ rest) ys a inside = by_test (x == a) inside (in_left rest ys a)
  where
    by_test : (b : Bool) → (b || is_in rest a) ≡ true → (is_in rest a ≡ true → is_in (rest ++ ys) a ≡ true) → (b || is_in (rest ++ ys) a) ≡ true
    by_test true here later = refl
    by_test false here later = later here

pub in_right : (xs ys : List ℕ) (a : ℕ) → is_in ys a ≡ true → is_in (xs ++ ys) a ≡ true
in_right [] ys a inside = inside
in_right (x ∷ rest) ys a inside = or_right (x == a) (is_in (rest ++ ys) a) (in_right rest ys a inside)

pub in_head : (a : ℕ) (rest : List ℕ) → is_in (a ∷ rest) a ≡ true
in_head a rest = or_left (a == a) (is_in rest a) (eq-eqb a a refl)

-- what a function of each element gives is in the list of what it gives
pub all_mapped : {X : Type 0} (f : X → ℕ) (xs : List X) → All (λ x. is_in (map f xs) (f x) ≡ true) xs
all_mapped f [] = All-nil (λ x. is_in [] (f x) ≡ true)
all_mapped f (x ∷ rest) =
    All-cons (λ y. is_in (f x ∷ map f rest) (f y) ≡ true) x rest (in_head (f x) (map f rest))
    (All-weaker (λ y. is_in (map f rest) (f y) ≡ true) (λ y. is_in (f x ∷ map f rest) (f y) ≡ true)
    (λ y inside. or_right (f x == f y) (is_in (map f rest) (f y)) inside) rest (all_mapped f rest))

-- what holds of each number of a list holds of each that is in it
pub holds_of : (P : ℕ → Type 0) (xs : List ℕ) (a : ℕ) → All P xs → is_in xs a ≡ true → P a
holds_of P [] a all inside = cc
holds_of P (x ∷ rest) a all inside =
    by_test (x == a) refl inside (All-head P x rest all) (holds_of P rest a (All-tail P x rest all))
  where
    by_test : (b : Bool) → (x == a) ≡ b → (b || is_in rest a) ≡ true → P x → (is_in rest a ≡ true → P a) → P a
    by_test true same here first later = rw (eqb-true x a same) at first
    by_test false other here first later = later here
