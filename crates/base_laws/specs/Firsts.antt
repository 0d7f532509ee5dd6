-- The first fault in a stated order: what is left decides, once the tests before it have passed.
use Rattle.std.specs.Prelude.{◌≡◌, ℕ, zero, suc, ◌+◌, ◌<◌, ◌≤◌, Option, Some, None, List, [], ◌∷◌, ◌++◌, Result, Ok, Err, slice_get, option_and_then}
use Rattle.std.specs.Option.{option_or}

-- the first fault at the places from `at` on, of which n are left
abbrev pub first_at : {F : Type 0} → (ℕ → Option F) → ℕ → ℕ → Option F
first_at test at zero = None
first_at test at (suc n) = option_or (test at) (first_at test (suc at) n)

-- the test of what stands at a place
abbrev pub test_at : {X F : Type 0} → (X → Option F) → List X → ℕ → Option F
test_at test items place = option_and_then test (slice_get items place)

-- the first fault of a list of faults and passes
abbrev pub first_of : {F : Type 0} → List (Option F) → Option F
first_of [] = None
first_of (found ∷ rest) = option_or found (first_of rest)

-- the first fault of a list in which each item is tested behind those that stand before it, of which some are `earlier`
abbrev pub first_behind : {X F : Type 0} → (List X → X → Option F) → List X → List X → Option F
first_behind test earlier [] = None
first_behind test earlier (x ∷ rest) = option_or (test earlier x) (first_behind test (earlier ++ x ∷ []) rest)

-- the fault stands at one of the n places from `start` on, and every place before it passes
pub record IsFirstAt {F : Type 0} (test : ℕ → Option F) (start n : ℕ) (fault : F) : Type 0 where
  pub place : ℕ
  pub from : start ≤ place
  pub below : place < start + n
  pub found : test place ≡ Some fault
  pub before : (k : ℕ) → start ≤ k → k < place → test k ≡ None

-- what was read comes to its value, or to its first fault where there is one
abbrev pub judged : {X F : Type 0} → Option F → X → Result X F
judged None value = Ok value
judged (Some fault) value = Err fault

-- the first fault is the one that is told; where none is told, nothing is said of it
abbrev pub IsTold : {F : Type 0} → Option F → Option F → Type 0
IsTold None first = Unit {0}
IsTold (Some fault) first = first ≡ Some fault

-- a step goes on where there is no fault, and else stops at the first one or for a cause that is no fault
abbrev pub StopsAt : {X E F : Type 0} → (E → Option F) → Result X E → Option F → Type 0
StopsAt told (Ok value) first = first ≡ None
StopsAt told (Err error) first = IsTold (told error) first
