-- A case that may be timed: each of its two calls is of a step on states that it may be taken on.
use Rattle.extended_plan.specs.Job.{IsStepAt}
use Rattle.extended_plan.specs.Setting.{Setting}
use Rattle.step_times.specs.declared.case.Case.{Case}

pub record IsCase (s : Setting) (case : Case) : Type 0 where
  pub first : IsStepAt s case.node case.step case.first case.second
  pub other : IsStepAt s case.node case.step case.other case.second
