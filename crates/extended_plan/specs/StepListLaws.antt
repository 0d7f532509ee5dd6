-- What it says of a list of steps that it comes to a state and a cost. docs/MODEL.md, "Step lists", tells it in prose.
use Rattle.std.specs.Prelude.{◌≡◌, List, Ok}
use Rattle.mq_base.specs.declared.plan.Step.{Step}
use Rattle.extended_plan.specs.declared.state.PlanTotals.{PlanTotals}
use Rattle.extended_plan.specs.Setting.{Setting}
use Rattle.extended_plan.specs.StepList.{steps_outcome, totals_of}
use Rattle.extended_plan.specs.Term.{Term, spell}
use Rattle.extended_plan.specs.Validity.{IsValid}

-- a list spells a valid extended plan of this state and cost, cut
pub record SpellsValid (s : Setting) (steps : List Step) (totals : PlanTotals) : Type 0 where
  pub term : Term
  pub valid : IsValid s term
  pub spelt : spell term ≡ steps
  pub comes : totals ≡ totals_of s term

-- what lists come to is exact: that of a valid extended plan comes to the plan's state and cost, and each list that comes to a
-- state and a cost spells a valid extended plan of these
pub record IsOutcomeExact (s : Setting) : Type 0 where
  pub accepted : (x : Term) → IsValid s x → steps_outcome s (spell x) ≡ Ok (totals_of s x)
  pub valid : (steps : List Step) (totals : PlanTotals) → steps_outcome s steps ≡ Ok totals → SpellsValid s steps totals

-- it is so under every setting
abbrev pub OutcomesAreExact : Type 0
OutcomesAreExact = (s : Setting) → IsOutcomeExact s
