-- What a list of steps comes to: the valid extended plan that it spells, or the first place where it fails, and why. docs/MODEL.md,
-- "Step lists", tells it in prose.
use Rattle.std.specs.Prelude.{ℕ, suc, ◌==◌, Bool, false, List, [], ◌∷◌, Option, Some, None, Result, Ok, Err, is_none, option_map, if◌then◌else◌}
use Rattle.mq_base.specs.declared.plan.Step.{Step}
use Rattle.mq_base.specs.declared.plan.Step.TheVariants as step
use Rattle.cost_model.specs.Costs.{cut}
use Rattle.policy_base.specs.Accepted.{plain_of, sealed_of}
use Rattle.view_authority.specs.Breaches.{breach}
use Rattle.extended_plan.specs.declared.step_no.StepNo.{StepNo}
use Rattle.extended_plan.specs.declared.step_no.StepWhy.{StepWhy}
use Rattle.extended_plan.specs.declared.step_no.StepWhy.TheVariants.{Shape, NotThePlan, NotRunnable, Breach, NotTheGoal}
use Rattle.extended_plan.specs.declared.state.PlanTotals.{PlanTotals}
use Rattle.extended_plan.specs.Certificate.{is_goal}
use Rattle.extended_plan.specs.Setting.{Setting, root}
use Rattle.extended_plan.specs.States.{cost, state}
use Rattle.extended_plan.specs.Term.{Term, Leaf, Enc, Dec, Send, Un, Bin, holder, node_of}
use Rattle.extended_plan.specs.Validity.{profile, runnable}

-- the terms after a step, the last made first; None where an operand is missing
abbrev pub made : Step → List Term → Option (List Term)
made (step.Base t) terms = Some (Leaf t ∷ terms)
made (step.Enc a) (x ∷ terms) = Some (Enc a x ∷ terms)
made (step.Dec a) (x ∷ terms) = Some (Dec a x ∷ terms)
made (step.Send to) (x ∷ terms) = Some (Send to x ∷ terms)
made (step.Un n) (x ∷ terms) = Some (Un n x ∷ terms)
made (step.Bin n) (y ∷ x ∷ terms) = Some (Bin n x y ∷ terms)
made _ _ = None

-- the holder of a term may not hold its table
abbrev pub breach_of : Setting → Term → Option StepWhy
breach_of s x =
    option_map (Breach (holder s x)) (breach (plain_of s.policy (holder s x).0) (sealed_of s.policy (holder s x).0) (profile s x))

-- what is wrong with a term whose operands are right: it gives no subtree of the plan, its last step is not runnable, or its
-- holder may not hold its table
abbrev pub term_fault : Setting → Term → Option StepWhy
term_fault s x = if is_none (node_of s x) then Some NotThePlan else if runnable s x then breach_of s x else Some NotRunnable

-- the fault of the term that was made last
abbrev pub last_fault : Setting → List Term → Option StepWhy
last_fault s [] = None
last_fault s (x ∷ terms) = term_fault s x

-- whether a term is at the root
abbrev pub is_root : Setting → Option ℕ → Bool
is_root s (Some n) = n == root s
is_root s None = false

-- what is wrong with the only term that is left: it is not the root's, or not a goal
abbrev pub end_fault : Setting → Term → Option StepWhy
end_fault s x = if is_root s (node_of s x) then if is_goal s (state s x) then None else Some NotTheGoal else Some NotThePlan

-- the state of a term, and its cost, cut
abbrev pub totals_of : Setting → Term → PlanTotals
totals_of s x = record { state = state s x; cost = cut (cost s x) }

-- the list fails at a place where there is a fault, and else comes to what the rest does
abbrev pub stopped : ℕ → Option StepWhy → Result PlanTotals StepNo → Result PlanTotals StepNo
stopped place None rest = rest
stopped place (Some why) rest = Err (record { at = place; why = why })

-- what a list comes to at its end, where these terms were made
abbrev pub end_outcome : Setting → ℕ → List Term → Result PlanTotals StepNo
end_outcome s place (x ∷ []) = stopped place (end_fault s x) (Ok (totals_of s x))
end_outcome s place _ = Err (record { at = place; why = Shape })

-- what a list comes to after a step that made these terms
abbrev pub taken : Setting → ℕ → Option (List Term) → (List Term → Result PlanTotals StepNo) → Result PlanTotals StepNo
taken s place None next = Err (record { at = place; why = Shape })
taken s place (Some terms) next = stopped place (last_fault s terms) (next terms)

-- what the steps from a place on come to, where the earlier ones made these terms
abbrev pub outcome_after : Setting → List Term → ℕ → List Step → Result PlanTotals StepNo
outcome_after s terms place [] = end_outcome s place terms
outcome_after s terms place (step ∷ rest) = taken s place (made step terms) (λ next. outcome_after s next (suc place) rest)

-- what a list of steps comes to
abbrev pub steps_outcome : Setting → List Step → Result PlanTotals StepNo
steps_outcome s steps = outcome_after s [] 0 steps
