use Rattle.row_algebra.specs.Contents.{contents_of}
use Rattle.plan_runner.proofs.run.run_plan.Given as goal

abbrev pub ghost-run_steps : goal.ghost-run_steps
ghost-run_steps a = contents_of a.job.now.policy.now.schema a.tables
