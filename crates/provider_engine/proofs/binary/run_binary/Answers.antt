use Rattle.extended_plan.specs.Job.{setting_of}
use Rattle.provider_engine.proofs.TwoHeld.{sealed_of_two, tables_fit, two_of_job, two_opened}
use Rattle.provider_engine.proofs.binary.run_binary.Goals as goal

pub on_tables-requires : goal.on_tables-requires
on_tables-requires c =
    tables_fit (setting_of c.args.job.now) c.args.node c.args.left c.args.right c.args.job.now.ready c.requires.left c.requires.right
    c.requires.runnable c.operation.result.now c.operation.ensures

pub invariant_of-result : goal.invariant_of-result
invariant_of-result c = record {
  sealed = sealed_of_two (setting_of c.args.job.now) c.args.node c.args.left c.args.right c.args.job.now.ready c.requires.left c.requires.right
      c.requires.runnable c.state_on_two-state.result c.state_on_two-state.ensures.state c.state_on_two-state.ensures.stands c.in-Ok.table
      c.in-Ok.ensures.beside;
}

pub returns-in-Ok-clause-of_job : goal.returns-in-Ok-clause-of_job
returns-in-Ok-clause-of_job c =
    two_of_job (setting_of c.args.job.now) c.args.node c.args.left c.args.right c.args.job.now.ready c.requires.left c.requires.right
    c.requires.runnable c.state_on_two-state.result c.state_on_two-state.ensures.state c.state_on_two-state.ensures.stands c.in-Ok.table
    c.in-Ok.ensures.beside _

pub returns-in-Ok-clause-opened : goal.returns-in-Ok-clause-opened
returns-in-Ok-clause-opened c =
    two_opened (setting_of c.args.job.now) c.args.node c.args.left c.args.right c.args.job.now.ready c.requires.left c.requires.right
    c.requires.runnable c.state_on_two-state.result c.state_on_two-state.ensures.state c.state_on_two-state.ensures.stands c.in-Ok.table
    c.in-Ok.ensures.beside
