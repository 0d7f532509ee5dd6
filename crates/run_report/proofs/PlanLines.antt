-- What the steps of a plan come to as JSON.
use Rattle.std.proofs.Common.{◌≡◌, List, [], ◌∷◌, refl, false}
use Rattle.serde_json.specs.Written.{has_float}
use Rattle.mq_base.specs.declared.plan.Step.{Step}
use Rattle.mq_base.specs.declared.plan.Step.TheVariants as step
use Rattle.policy_base.specs.declared.policy.Policy.{Policy}
use Rattle.run_report.specs.PlanLine.{step_data, steps_data}

-- no step has a float
step_without_float : (p : Policy) (s : Step) → has_float (step_data p s) ≡ false
step_without_float p (step.Base t) = refl
step_without_float p (step.Enc a) = refl
step_without_float p (step.Dec a) = refl
step_without_float p (step.Send s) = refl
step_without_float p (step.Un n) = refl
step_without_float p (step.Bin n) = refl

pub steps_without_float : (p : Policy) (steps : List Step) → has_float (steps_data p steps) ≡ false
steps_without_float p [] = refl
steps_without_float p (s ∷ steps) = rw (step_without_float p s) (steps_without_float p steps)
