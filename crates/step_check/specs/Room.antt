-- The room of a stack that is lent to a check of steps, and what the answer of such a check says. docs/MODEL.md, "Step lists", tells
-- it in prose.
use Rattle.std.specs.Prelude.{◌≡◌, ℕ, Result, Ok, Err, vec_capacity}
use Rattle.step_check.specs.declared.stack.StepStack.{StepStack}
use Rattle.extended_plan.specs.declared.state.PlanTotals.{PlanTotals}
use Rattle.extended_plan.specs.declared.step_no.StepNo.{StepNo}
use Rattle.step_check.specs.declared.steps_no.StepsNo.{StepsNo}
use Rattle.step_check.specs.declared.steps_no.StepsNo.TheVariants.{Refused, NoMemory}

-- for how many tables a stack has room
abbrev pub room_of : StepStack → ℕ
room_of stack = vec_capacity stack.slots

-- an answer is what the list comes to; want of memory is tied to no cause
abbrev pub IsToldOf : Result PlanTotals StepNo → Result PlanTotals StepsNo → Type 0
IsToldOf outcome (Ok totals) = outcome ≡ Ok totals
IsToldOf outcome (Err (Refused found)) = outcome ≡ Err found
IsToldOf outcome (Err NoMemory) = Unit {0}
