use Rattle.extended_plan.specs.Job.{setting_of}
use Rattle.provider_engine.specs.OfJob.{IsOfJob, IsOpenedBy}
use Rattle.engine_tests.proofs.steps.walk.Given as goal

abbrev pub invariant-loop-step : goal.invariant-loop-step
invariant-loop-step g l = IsOfJob (setting_of l.job) l.held × IsOpenedBy (setting_of l.job) l.keys.keys l.held
