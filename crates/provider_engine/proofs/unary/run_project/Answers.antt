use Rattle.std.proofs.Common.{◌∙◌, ap}
use Rattle.std.specs.Prelude.{is_some}
use Rattle.extended_plan.specs.Job.{setting_of}
use Rattle.column_table.specs.Columns.{shown_columns}
use Rattle.provider_engine.specs.Held.{node_of, state_of}
use Rattle.provider_engine.proofs.HeldLaws.{before_group, one_at, sealed_as_viewed}
use Rattle.provider_engine.proofs.OneLaws.{projected_columns, projected_counted, projected_opened}
use Rattle.provider_engine.proofs.unary.run_project.Goals as goal

pub invariant_of-result : goal.invariant_of-result
invariant_of-result c = record {
  sealed = sealed_as_viewed (setting_of c.args.job.now) c.args.node.0 c.state_on_one-state.result.view (shown_columns c.project.result.columns)
      c.state_on_one-state.ensures.stands.view
      (projected_columns (setting_of c.args.job.now) c.args.node (node_of c.args.input) (state_of c.args.input) c.state_on_one-state.result
      c.args.kept (shown_columns c.args.input.table.columns) (shown_columns c.project.result.columns) c.args.job.now.ready
      c.requires.runnable.from c.state_on_one-state.ensures.answers c.requires.project c.project.ensures.columns c.requires.of_job.column);
}

pub returns-clause-of_job : goal.returns-clause-of_job
returns-clause-of_job c = record {
  node = c.requires.runnable.from.node;
  state = c.state_on_one-state.ensures.stands;
  column = projected_columns (setting_of c.args.job.now) c.args.node (node_of c.args.input) (state_of c.args.input) c.state_on_one-state.result
      c.args.kept (shown_columns c.args.input.table.columns) (shown_columns c.project.result.columns) c.args.job.now.ready
      c.requires.runnable.from c.state_on_one-state.ensures.answers c.requires.project c.project.ensures.columns c.requires.of_job.column;
  counted = ap is_some c.project.ensures.counts
      ∙ projected_counted (setting_of c.args.job.now) c.args.node (node_of c.args.input) c.args.kept c.args.input.table.counts
      c.args.job.now.ready c.requires.runnable.from c.requires.project c.requires.of_job.counted;
}

pub returns-clause-opened : goal.returns-clause-opened
returns-clause-opened c =
    let at = one_at (setting_of c.args.job.now) c.args.node (node_of c.args.input) c.args.job.now.ready c.requires.runnable.from in
    projected_opened (setting_of c.args.job.now) c.args.keys.now.keys (node_of c.args.input).0 c.args.node.0 c.args.kept.0
    (shown_columns c.args.input.table.columns) (shown_columns c.project.result.columns)
    (before_group (setting_of c.args.job.now) (node_of c.args.input).0 c.args.node.0 at.below) c.project.ensures.columns c.requires.opened
