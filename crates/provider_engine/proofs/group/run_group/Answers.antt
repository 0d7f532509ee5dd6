use Rattle.extended_plan.specs.Job.{setting_of}
use Rattle.extended_plan.specs.Setting.{op_at}
use Rattle.provider_engine.proofs.GroupHeld.{group_fits, group_of_job, group_op, group_opened, sealed_of_group}
use Rattle.provider_engine.proofs.group.run_group.Goals as goal

pub group_on-requires : goal.group_on-requires
group_on-requires c =
    group_fits (setting_of c.args.job.now) c.args.keys.now.keys c.args.node c.args.input c.args.job.now.ready c.requires.of_job c.requires.opened
    c.requires.runnable c.requires.typed (group_op (op_at (setting_of c.args.job.now) c.args.node.0) c.requires.group) c.operation.result.now
    c.operation.ensures

pub invariant_of-result : goal.invariant_of-result
invariant_of-result c = record {
  sealed = sealed_of_group (setting_of c.args.job.now) c.args.keys.now.keys c.args.node c.args.input c.args.job.now.ready c.requires.of_job
      c.requires.opened c.requires.runnable c.requires.typed (group_op (op_at (setting_of c.args.job.now) c.args.node.0) c.requires.group)
      c.state_on_one-state.result c.state_on_one-state.ensures.answers c.state_on_one-state.ensures.stands c.operation.result.now
      c.operation.ensures c.in-Ok.table c.in-Ok.ensures.made;
}

pub returns-in-Ok-clause-of_job : goal.returns-in-Ok-clause-of_job
returns-in-Ok-clause-of_job c =
    group_of_job (setting_of c.args.job.now) c.args.keys.now.keys c.args.node c.args.input c.args.job.now.ready c.requires.of_job
    c.requires.opened c.requires.runnable c.requires.typed (group_op (op_at (setting_of c.args.job.now) c.args.node.0) c.requires.group)
    c.state_on_one-state.result c.state_on_one-state.ensures.answers c.state_on_one-state.ensures.stands c.operation.result.now
    c.operation.ensures c.in-Ok.table c.in-Ok.ensures.made _

pub returns-in-Ok-clause-opened : goal.returns-in-Ok-clause-opened
returns-in-Ok-clause-opened c =
    group_opened (setting_of c.args.job.now) c.args.keys.now.keys c.args.node c.args.input c.args.job.now.ready c.requires.of_job
    c.requires.opened c.requires.runnable c.requires.typed (group_op (op_at (setting_of c.args.job.now) c.args.node.0) c.requires.group)
    c.state_on_one-state.result c.state_on_one-state.ensures.answers c.state_on_one-state.ensures.stands c.operation.result.now
    c.operation.ensures c.in-Ok.table c.in-Ok.ensures.made
