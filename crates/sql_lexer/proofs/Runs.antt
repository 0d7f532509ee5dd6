-- Runs of bytes that pass a test, and tests of single bytes.
use Rattle.std.proofs.Common.{◌≡◌, ℕ, suc, ◌+◌, Bool, true, false, List, [], ◌∷◌, ◌++◌, length, take, refl, arith}
use Rattle.std.specs.Prelude.{if◌then◌else◌}
use Rattle.std.specs.List.{prefix_len, list_all}
use Rattle.base_laws.proofs.BoolLaws.{both}

-- what holds of each of two values, under the test that chooses it, holds of the one that is chosen
pub branch : {X : Type 0} (P : X → Type 0) (test : Bool) (x y : X) → (test ≡ true → P x) → (test ≡ false → P y)
    → P (if test then x else y)
branch P true x y passes fails = passes refl
branch P false x y passes fails = fails refl

pub chosen_first : {X : Type 0} (test : Bool) (x y : X) → test ≡ true → (if test then x else y) ≡ x
chosen_first true x y passes = refl
chosen_first false x y passes = cc

pub chosen_second : {X : Type 0} (test : Bool) (x y : X) → test ≡ false → (if test then x else y) ≡ y
chosen_second true x y fails = cc
chosen_second false x y fails = refl

pub one_and : (n : ℕ) → 1 + n ≡ suc n
one_and n = omega arith

pub two_and : (n : ℕ) → 2 + n ≡ suc (suc n)
two_and n = omega arith

-- the run in front passes the test
pub all_in_run : (test : ℕ → Bool) (bytes : List ℕ) → list_all test (take (prefix_len test bytes) bytes) ≡ true
all_in_run test [] = refl
all_in_run test (b ∷ rest) =
    branch (λ n. list_all test (take n (b ∷ rest)) ≡ true) (test b) (1 + prefix_len test rest) 0
    (λ passes. rw (one_and (prefix_len test rest), passes) (all_in_run test rest)) (λ fails. refl)

-- bytes that pass begin a run
pub run-append : (test : ℕ → Bool) (bytes more : List ℕ) → list_all test bytes ≡ true
    → prefix_len test (bytes ++ more) ≡ length bytes + prefix_len test more
run-append test [] more all = omega arith
run-append test (b ∷ rest) more all =
    let parts = both (test b) (list_all test rest) all in
    rw (parts.0) (omega (arith, run-append test rest more parts.1))
