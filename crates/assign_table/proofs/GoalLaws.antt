-- The best goal between two places, when one more place is looked at.
use Rattle.std.proofs.Common.{◌≡◌, ℕ, ◌+◌, ◌≤◌, ◌<◌, Bool, true, false, List, length, Option, Some, None, if◌then◌else◌, ◌⊎◌, inl, inr, refl, sym, arith}
use Rattle.std.specs.Prelude.{IfSome, nat_lt}
use Rattle.std.proofs.lemmas.Bool.Decides.{nat_tests}
use Rattle.std.proofs.Math.Path.{subst}
use Rattle.extended_plan.specs.Certificate.{is_goal}
use Rattle.extended_plan.specs.Setting.{Setting}
use Rattle.assign_table.specs.declared.way.Settled.{Settled}
use Rattle.assign_table.specs.inside.Blocks.{IsBestGoal, IsFrom, IsGoalAt, better_of, lower_of}
use Rattle.assign_table.specs.inside.Ways.{settled_at}

-- a place from one up to the next but one
last_or : (from at v : ℕ) → IsFrom from (at + 1) v → IsFrom from at v ⊎ (v ≡ at)
last_or from at v is = by_place (grind (arith, is.high))
  where
    by_place : (v < at) ⊎ (v ≡ at) → IsFrom from at v ⊎ (v ≡ at)
    by_place (inl before) = inl (record { low = is.low; high = before })
    by_place (inr last) = inr last

-- no place is looked at yet
pub best_none : (s : Setting) (arena : List Settled) (from : ℕ) → IsBestGoal s arena from from None
best_none s arena from v goal = omega (arith, goal.0.low, goal.0.high)

-- one more that is no goal
best_passed : (s : Setting) (arena : List Settled) (from at : ℕ) (best : Option ℕ) → is_goal s (settled_at arena at).state ≡ false
    → IsBestGoal s arena from at best → IsBestGoal s arena from (at + 1) best
best_passed s arena from at best no_goal is = by_best best is
  where
    earlier : (v : ℕ) → IsGoalAt s arena from (at + 1) v → IsGoalAt s arena from at v
    earlier v goal = by_place (last_or from at v goal.0)
      where
        by_place : IsFrom from at v ⊎ (v ≡ at) → IsGoalAt s arena from at v
        by_place (inl before) = (before, goal.1)
        by_place (inr last) =
            let both : is_goal s (settled_at arena at).state ≡ true = subst (λ i. is_goal s (settled_at arena i).state ≡ true) last goal.1 in
            cc

    by_best : (best : Option ℕ) → IsBestGoal s arena from at best → IsBestGoal s arena from (at + 1) best
    by_best None is = λ v goal. is v (earlier v goal)
    by_best (Some w) is =
        ((record { low = is.0.0.low; high = omega (arith, is.0.0.high) }, is.0.1), λ v goal. is.1 v (earlier v goal))

-- one more that is a goal
best_found : (s : Setting) (arena : List Settled) (from at : ℕ) (best : Option ℕ) → from ≤ at → is_goal s (settled_at arena at).state ≡ true
    → IsBestGoal s arena from at best → IsBestGoal s arena from (at + 1) (lower_of arena at best)
best_found s arena from at None low goal is = ((record { low = low; high = omega arith }, goal), λ v there. by_place v there (last_or from at v there.0))
  where
    by_place : (v : ℕ) → IsGoalAt s arena from (at + 1) v → IsFrom from at v ⊎ (v ≡ at) → (settled_at arena at).label ≤ (settled_at arena v).label
    by_place v there (inl before) = absurd (is v (before, there.1))
    by_place v there (inr last) = subst (λ i. (settled_at arena at).label ≤ (settled_at arena i).label) (sym last) (omega arith)
best_found s arena from at (Some w) low goal is = by_test (nat_lt (settled_at arena at).label (settled_at arena w).label) refl
  where
    by_place : (most : ℕ) (v : ℕ) → most ≤ (settled_at arena w).label → most ≤ (settled_at arena at).label → IsGoalAt s arena from (at + 1) v
        → IsFrom from at v ⊎ (v ≡ at) → most ≤ (settled_at arena v).label
    by_place most v first second there (inl before) = omega (arith, first, is.1 v (before, there.1))
    by_place most v first second there (inr last) = subst (λ i. most ≤ (settled_at arena i).label) (sym last) second

    by_test : (b : Bool) → nat_lt (settled_at arena at).label (settled_at arena w).label ≡ b
        → IsBestGoal s arena from (at + 1) (if b then Some at else Some w)
    by_test true less =
        let lower : (settled_at arena at).label < (settled_at arena w).label = grind (arith, nat_tests, less) in
        ((record { low = low; high = omega arith }, goal), λ v there. by_place (settled_at arena at).label v (omega (arith, lower)) (omega arith) there (last_or from at v there.0))
    by_test false more =
        let upper : (settled_at arena w).label ≤ (settled_at arena at).label = grind (arith, nat_tests, more) in
        ((record { low = is.0.0.low; high = omega (arith, is.0.0.high) }, is.0.1), λ v there. by_place (settled_at arena w).label v (omega arith) upper there (last_or from at v there.0))

pub best_more : (s : Setting) (arena : List Settled) (from at : ℕ) (best : Option ℕ) → from ≤ at → IsBestGoal s arena from at best
    → IsBestGoal s arena from (at + 1) (better_of s arena at best)
best_more s arena from at best low is = by_test (is_goal s (settled_at arena at).state) refl
  where
    by_test : (b : Bool) → is_goal s (settled_at arena at).state ≡ b → IsBestGoal s arena from (at + 1) (if b then lower_of arena at best else best)
    by_test true goal = best_found s arena from at best low goal is
    by_test false none = best_passed s arena from at best none is

-- the best goal so far is in the arena
pub best_inside : (s : Setting) (arena : List Settled) (from at : ℕ) (best : Option ℕ) → at ≤ length arena → IsBestGoal s arena from at best
    → IfSome best (λ place. place < length arena)
best_inside s arena from at None inside is = tt
best_inside s arena from at (Some w) inside is = omega (arith, is.0.0.high, inside)
