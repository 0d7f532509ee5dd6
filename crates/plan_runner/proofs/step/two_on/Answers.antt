use Rattle.provider_engine.specs.Opening.{seals_of}
use Rattle.plan_runner.proofs.step.two_on.Goals as goal

pub returns-in-Ok-clause-made : goal.returns-in-Ok-clause-made
returns-in-Ok-clause-made c keys = record {
  node = c.in-Ok.ensures.node;
  state = c.in-Ok.ensures.state;
  rows = c.in-Ok.ensures.rows (seals_of c.args.job.now.clusters keys);
  of_job = c.in-Ok.ensures.of_job;
  opened = c.in-Ok.ensures.opened keys;
}
