use Rattle.std.proofs.Common.{drop}
use Rattle.extended_plan.specs.Job.{setting_of}
use Rattle.plan_runner.specs.inside.UnderWay.{IsUnderWay}
use Rattle.plan_runner.proofs.run.run_steps.Given as goal

abbrev pub ghost-run_step : goal.ghost-run_step
ghost-run_step g a = g.contents

abbrev pub invariant-loop-place : goal.invariant-loop-place
invariant-loop-place g l = IsUnderWay (setting_of l.job) l.keys.keys g.contents (drop l.place l.steps) l.place l.waiting l.stack
