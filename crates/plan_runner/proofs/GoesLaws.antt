-- What the steps that are left say of the terms so far: the step that comes next has its operands, and the term that it makes gives a node
-- and is runnable.
use Rattle.std.proofs.Common.{◌≡◌, ℕ, suc, true, false, Bool, List, [], ◌∷◌, Option, Some, None, Result, Ok, refl, ap}
use Rattle.std.specs.Prelude.{is_none, if◌then◌else◌}
use Rattle.std.proofs.lemmas.Bool.{eqb-true}
use Rattle.base_laws.proofs.BoolLaws.{both}
use Rattle.mq_base.specs.declared.ids.NodeId.{NodeId}
use Rattle.mq_base.specs.declared.ids.TableId.{TableId}
use Rattle.mq_base.specs.declared.plan.Step.{Step}
use Rattle.mq_base.specs.declared.plan.Step.TheVariants as step
use Rattle.extended_plan.proofs.ListLaws.{tests_clear}
use Rattle.extended_plan.specs.declared.state.PlanTotals.{PlanTotals}
use Rattle.extended_plan.specs.declared.step_no.StepNo.{StepNo}
use Rattle.extended_plan.specs.declared.step_no.StepWhy.{StepWhy}
use Rattle.extended_plan.specs.declared.step_no.StepWhy.TheVariants.{NotThePlan, NotTheGoal}
use Rattle.extended_plan.specs.Certificate.{is_goal}
use Rattle.extended_plan.specs.Setting.{Setting, root}
use Rattle.extended_plan.specs.States.{state}
use Rattle.extended_plan.specs.StepList.{breach_of, end_fault, is_root, last_fault, made, outcome_after, stopped, taken, term_fault, totals_of}
use Rattle.extended_plan.specs.Term.{Term, Leaf, Enc, Dec, Send, Un, Bin, node_of}
use Rattle.extended_plan.specs.Validity.{profile, runnable}
use Rattle.plan_runner.specs.inside.UnderWay.{IsOnOneStep}

-- a list that is not stopped at a place has no fault there
stopped_ok : (place : ℕ) (fault : Option StepWhy) (rest : Result PlanTotals StepNo) (totals : PlanTotals) → stopped place fault rest ≡ Ok totals
    → (fault ≡ None) × (rest ≡ Ok totals)
stopped_ok place None rest totals ok = (refl, ok)
stopped_ok place (Some why) rest totals ok = cc

-- the terms after a step, the last of which has no fault, and from which the rest comes to the totals
pub record GoesTo (s : Setting) (terms : List Term) (place : ℕ) (taking : Step) (left : List Step) (totals : PlanTotals) : Type 0 where
  pub next : List Term
  pub makes : made taking terms ≡ Some next
  pub clear : last_fault s next ≡ None
  pub goes : outcome_after s next (suc place) left ≡ Ok totals

pub goes_to : (s : Setting) (terms : List Term) (place : ℕ) (taking : Step) (left : List Step) (totals : PlanTotals)
    → outcome_after s terms place (taking ∷ left) ≡ Ok totals → GoesTo s terms place taking left totals
goes_to s terms place taking left totals ok = by_made (made taking terms) refl ok
  where
    by_made : (m : Option (List Term)) → made taking terms ≡ m → taken s place m (λ next. outcome_after s next (suc place) left) ≡ Ok totals
        → GoesTo s terms place taking left totals
    by_made None is ok = cc
    by_made (Some next) is ok =
        let goes = stopped_ok place (last_fault s next) (outcome_after s next (suc place) left) totals ok in
        record { next = next; makes = is; clear = goes.0; goes = goes.1 }

-- a term without a fault gives a node, and is runnable
pub record IsSound (s : Setting) (x : Term) : Type 0 where
  pub node : ℕ
  pub gives : node_of s x ≡ Some node
  pub runs : runnable s x ≡ true

given : (o : Option ℕ) → is_none o ≡ false → (n : ℕ) × (o ≡ Some n)
given (Some n) some = (n, refl)
given None some = cc

pub sound : (s : Setting) (x : Term) → term_fault s x ≡ None → IsSound s x
sound s x none =
    let tests = tests_clear (is_none (node_of s x)) (runnable s x) (breach_of s x) none in
    let at = given (node_of s x) tests.0 in
    record { node = at.0; gives = at.1; runs = tests.1 }

-- ---- the operands of a step

-- the term that a step on one table makes
abbrev pub one_made : Step → Term → Term
one_made (step.Enc a) x = Enc a x
one_made (step.Dec a) x = Dec a x
one_made (step.Send to) x = Send to x
one_made (step.Un n) x = Un n x
one_made _ x = x

pub record IsOnOne (taking : Step) (terms next : List Term) : Type 0 where
  pub operand : Term
  pub below : List Term
  pub had : terms ≡ operand ∷ below
  pub makes : next ≡ one_made taking operand ∷ below

pub on_one : (taking : Step) (terms next : List Term) → IsOnOneStep taking → made taking terms ≡ Some next → IsOnOne taking terms next
on_one (step.Base t) terms next on makes = absurd on
on_one (step.Bin n) terms next on makes = absurd on
on_one (step.Enc a) [] next on makes = cc
on_one (step.Enc a) (x ∷ terms) next on makes = record { operand = x; below = terms; had = refl; makes = cc }
on_one (step.Dec a) [] next on makes = cc
on_one (step.Dec a) (x ∷ terms) next on makes = record { operand = x; below = terms; had = refl; makes = cc }
on_one (step.Send to) [] next on makes = cc
on_one (step.Send to) (x ∷ terms) next on makes = record { operand = x; below = terms; had = refl; makes = cc }
on_one (step.Un n) [] next on makes = cc
on_one (step.Un n) (x ∷ terms) next on makes = record { operand = x; below = terms; had = refl; makes = cc }

pub record IsOnTwo (n : NodeId) (terms next : List Term) : Type 0 where
  pub left : Term
  pub right : Term
  pub below : List Term
  pub had : terms ≡ right ∷ left ∷ below
  pub makes : next ≡ Bin n left right ∷ below

pub on_two : (n : NodeId) (terms next : List Term) → made (step.Bin n) terms ≡ Some next → IsOnTwo n terms next
on_two n [] next makes = cc
on_two n (y ∷ []) next makes = cc
on_two n (y ∷ x ∷ terms) next makes = record { left = x; right = y; below = terms; had = refl; makes = cc }

pub on_none : (t : TableId) (terms next : List Term) → made (step.Base t) terms ≡ Some next → next ≡ Leaf t ∷ terms
on_none t terms next makes = cc

-- ---- the end

-- at the end one term is left, at the root, with nothing encrypted
pub record IsLast (s : Setting) (terms : List Term) : Type 0 where
  pub term : Term
  pub only : terms ≡ term ∷ []
  pub gives : node_of s term ≡ Some (root s)
  pub opened : (profile s term).visible_encrypted ≡ 0

end_tests : (at_root goal : Bool) → (if at_root then if goal then None else Some NotTheGoal else Some NotThePlan) ≡ None
    → (at_root ≡ true) × (goal ≡ true)
end_tests true true none = (refl, refl)
end_tests true false none = cc
end_tests false goal none = cc

goal_at : (s : Setting) (at : Option ℕ) → is_root s at ≡ true → at ≡ Some (root s)
goal_at s (Some n) at_root = ap (λ m. Some m) (eqb-true n (root s) at_root)
goal_at s None at_root = cc

pub last_of : (s : Setting) (terms : List Term) (place : ℕ) (totals : PlanTotals) → outcome_after s terms place [] ≡ Ok totals → IsLast s terms
last_of s [] place totals ok = cc
last_of s (x ∷ y ∷ terms) place totals ok = cc
last_of s (x ∷ []) place totals ok =
    let ends = stopped_ok place (end_fault s x) (Ok (totals_of s x)) totals ok in
    let tests = end_tests (is_root s (node_of s x)) (is_goal s (state s x)) ends.0 in
    record {
      term = x;
      only = refl;
      gives = goal_at s (node_of s x) tests.0;
      opened = eqb-true (profile s x).visible_encrypted 0 (both _ _ tests.1).1;
    }
