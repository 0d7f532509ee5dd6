-- Laws of the places of a list: what stands there, what passes a test there, what a write or a repeated value leaves, and what a search
-- finds.
use Rattle.std.proofs.Common.{◌≡◌, ℕ, zero, suc, ◌<◌, ◌≤◌, Bool, true, false, cond, List, [], ◌∷◌, length, get_or, drop, All, Some, None, refl, arith, ◌-◌, ◌++◌, take, set, replicate, find, Option, ap}
use Rattle.std.specs.Prelude.{filter, nat_lt, slice_get, option_map}
use Rattle.std.proofs.lemmas.Bool.Decides.{nat_tests}
use Rattle.std.proofs.lemmas.Option.{get_or_from_slice_get, slice_get_within}
use Rattle.std.specs.List.{list_any, IsDistinct, AllByRecursion}
use Rattle.std.proofs.Math.Nat.{sub-zero}
use Rattle.std.proofs.Math.Seq.{take-length}
use Rattle.std.proofs.lemmas.Bool.{or_parts}

-- a place past the end reads as the default
pub read_none : {X : Type 0} (xs : List X) (i : ℕ) (d : X) → slice_get xs i ≡ None → get_or xs i d ≡ d
read_none [] i d none = refl
read_none (x ∷ xs) zero d none = cc
read_none (x ∷ xs) (suc i) d none = read_none xs i d none

-- what holds of each holds of the one at a place
pub listed_at : {X : Type 0} (P : X → Type 0) (xs : List X) (place : ℕ) (x : X) → All P xs → slice_get xs place ≡ Some x → P x
listed_at P xs place x all got =
    rw (get_or_from_slice_get xs place x x got) at (all place x (slice_get_within xs place x got))

-- where none passes, none is left
pub none_pass : {X : Type 0} (test : X → Bool) (xs : List X) → ((k : ℕ) (d : X) → k < length xs → test (get_or xs k d) ≡ false) → filter test xs ≡ []
none_pass test [] fails = refl
none_pass test (x ∷ rest) fails =
    rw (fails 0 x (omega arith)) (none_pass test rest (λ k d below. fails (suc k) d (omega (arith, below))))

-- the first that passes stands before the other ones that do
pub one_passes : {X : Type 0} (test : X → Bool) (xs : List X) (at : ℕ) (d : X) → at < length xs → test (get_or xs at d) ≡ true
    → ((k : ℕ) → k < at → test (get_or xs k d) ≡ false) → filter test xs ≡ get_or xs at d ∷ filter test (drop (suc at) xs)
one_passes test [] at d below passes before = absurd (omega arith)
one_passes test (x ∷ rest) zero d below passes before = rw passes refl
one_passes test (x ∷ rest) (suc at) d below passes before =
    rw (before 0 (omega arith)) (one_passes test rest at d (omega arith) passes (λ k earlier. before (suc k) (omega (arith, earlier))))

-- a place that is not below the length is past the end
pub past_end : (n len : ℕ) → cond (nat_lt n len) (Some n) None ≡ None → len ≤ n
past_end n len none = by_test (nat_lt n len) refl
  where
    by_test : (b : Bool) → nat_lt n len ≡ b → len ≤ n
    by_test true below = let h : Some n ≡ None = rw below at none in cc
    by_test false past = grind (arith, nat_tests)

-- an item of two lists in a row
pub slice_get-append_left : {X : Type 0} (xs ys : List X) (k : ℕ) → k < length xs → slice_get (xs ++ ys) k ≡ slice_get xs k
slice_get-append_left [] ys k below = absurd (omega arith)
slice_get-append_left (x ∷ xs) ys zero below = refl
slice_get-append_left (x ∷ xs) ys (suc k) below = slice_get-append_left xs ys k (omega arith)

pub slice_get-append_right : {X : Type 0} (xs ys : List X) (k : ℕ) → length xs ≤ k → slice_get (xs ++ ys) k ≡ slice_get ys (k - length xs)
slice_get-append_right [] ys k past = rw sub-zero refl
slice_get-append_right (x ∷ xs) ys zero past = absurd (omega arith)
slice_get-append_right (x ∷ xs) ys (suc k) past =
    let less : suc k - suc (length xs) ≡ k - length xs = omega arith in
    rw less (slice_get-append_right xs ys k (omega arith))

-- what holds of the values of a list, and of none, holds after a write too
pub set-holds : {X : Type 0} (P : X → Type 0) (xs : List X) (i : ℕ) (x : X) (k : ℕ) (d : X) → ((j : ℕ) → P (get_or xs j d)) → P x
    → P (get_or (set xs i x) k d)
set-holds P [] i x k d each one = each k
set-holds P (y ∷ xs) zero x zero d each one = one
set-holds P (y ∷ xs) zero x (suc k) d each one = each (suc k)
set-holds P (y ∷ xs) (suc i) x zero d each one = each 0
set-holds P (y ∷ xs) (suc i) x (suc k) d each one = set-holds P xs i x k d (λ j. each (suc j)) one

-- and of a list of one value
pub replicate-holds : {X : Type 0} (P : X → Type 0) (n : ℕ) (x : X) (k : ℕ) (d : X) → P x → P d → P (get_or (replicate n x) k d)
replicate-holds P zero x k d of_value of_none = of_none
replicate-holds P (suc n) x zero d of_value of_none = of_value
replicate-holds P (suc n) x (suc k) d of_value of_none = replicate-holds P n x k d of_value of_none

-- an item before a place at which none passes a test does not pass it; nor does one of a list in which none does
pub none_before : {X : Type 0} (test : X → Bool) (xs : List X) (n k : ℕ) (x : X) → slice_get xs k ≡ Some x → k < n
    → list_any test (take n xs) ≡ false → test x ≡ false
none_before test [] n k x there below none = cc
none_before test (y ∷ xs) zero k x there below none = absurd (omega arith)
none_before test (y ∷ xs) (suc n) zero x there below none =
    let same : y ≡ x = cc in
    rw same at ((or_parts (test y) (list_any test (take n xs)) none).0)
none_before test (y ∷ xs) (suc n) (suc k) x there below none =
    none_before test xs n k x there (omega arith) (or_parts (test y) (list_any test (take n xs)) none).1

pub none_at : {X : Type 0} (test : X → Bool) (xs : List X) (k : ℕ) (x : X) → slice_get xs k ≡ Some x → list_any test xs ≡ false → test x ≡ false
none_at test xs k x there none =
    none_before test xs (length xs) k x there (slice_get_within xs k x there) (rw take-length none)

-- what is found stands at a place and passes the test
pub found_place : {X : Type 0} (test : X → Bool) (xs : List X) (x : X) → find test xs ≡ Some x → (k : ℕ) × ((slice_get xs k ≡ Some x) × (test x ≡ true))
found_place test [] x found = cc
found_place {X} test (y ∷ xs) x found = by_first (test y) refl found (found_place test xs x)
  where
    later : (k : ℕ) × ((slice_get xs k ≡ Some x) × (test x ≡ true)) → (k : ℕ) × ((slice_get (y ∷ xs) k ≡ Some x) × (test x ≡ true))
    later (k, (there, passes)) = (suc k, (there, passes))

    here : y ≡ x → test y ≡ true → (k : ℕ) × ((slice_get (y ∷ xs) k ≡ Some x) × (test x ≡ true))
    here same passes = (0, (ap Some same, rw same at passes))

    by_first : (b : Bool) → test y ≡ b → cond b (Some y) (find test xs) ≡ Some x
        → (find test xs ≡ Some x → (k : ℕ) × ((slice_get xs k ≡ Some x) × (test x ≡ true)))
        → (k : ℕ) × ((slice_get (y ∷ xs) k ≡ Some x) × (test x ≡ true))
    by_first true passes found rest = let same : y ≡ x = cc in here same passes
    by_first false fails found rest = later (rest found)

-- the first item that passes a test is found
pub found_first : {X : Type 0} (test : X → Bool) (xs : List X) (k : ℕ) (x : X) → slice_get xs k ≡ Some x → test x ≡ true
    → list_any test (take k xs) ≡ false → find test xs ≡ Some x
found_first test [] k x there passes none = cc
found_first test (y ∷ xs) zero x there passes none =
    let same : y ≡ x = cc in
    rw (same, passes) refl
found_first test (y ∷ xs) (suc k) x there passes none =
    let parts = or_parts (test y) (list_any test (take k xs)) none in
    rw parts.0 (found_first test xs k x there passes parts.1)

-- items of which none is equal to an earlier one are distinct
pub distinct_from_places : {X : Type 0} (same : X → X → Bool) (xs : List X)
    → ((i j : ℕ) (x y : X) → i < j → slice_get xs i ≡ Some x → slice_get xs j ≡ Some y → same x y ≡ false) → IsDistinct same xs
unfolding IsDistinct
distinct_from_places same [] each = tt
distinct_from_places {X} same (x ∷ xs) each = (
  from_first xs (λ j y there. each 0 (suc j) x y (omega arith) refl there),
  distinct_from_places same xs (λ i j a b below here there. each (suc i) (suc j) a b (omega arith) here there),
)
  where
    from_first : (rest : List X) → ((j : ℕ) (y : X) → slice_get rest j ≡ Some y → same x y ≡ false)
        → AllByRecursion (λ y. same x y ≡ false) rest
    from_first [] one = tt
    from_first (y ∷ rest) one = (one 0 y refl, from_first rest (λ j z there. one (suc j) z there))

-- what is shown of an item is shown of one that is there
pub shown : {X Y : Type 0} (show : X → Y) (o : Option X) (y : Y) → option_map show o ≡ Some y → (x : X) × ((o ≡ Some x) × (show x ≡ y))
shown show None y same = cc
shown show (Some x) y same = (x, (refl, cc))
