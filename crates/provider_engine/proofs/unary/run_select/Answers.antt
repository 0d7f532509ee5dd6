use Rattle.extended_plan.specs.Job.{setting_of}
use Rattle.column_table.specs.Columns.{shown_columns}
use Rattle.provider_engine.specs.Held.{node_of, state_of}
use Rattle.provider_engine.proofs.HeldLaws.{before_group, columns_opened_at_rows, one_at, sealed_as_viewed}
use Rattle.provider_engine.proofs.OneLaws.{selection_columns, selection_counted, taken_told}
use Rattle.provider_engine.proofs.unary.run_select.Goals as goal

pub invariant_of-result : goal.invariant_of-result
invariant_of-result c = record {
  sealed = sealed_as_viewed (setting_of c.args.job.now) c.args.node.0 c.state_on_one.result.view (shown_columns c.in-Ok.table.columns)
      c.state_on_one.ensures.stands.view
      (selection_columns (setting_of c.args.job.now) c.args.node (node_of c.args.input) (state_of c.args.input) c.state_on_one.result
      c.in-Ok.ensures.taken.rows (shown_columns c.args.input.table.columns) (shown_columns c.in-Ok.table.columns) c.args.job.now.ready
      c.requires.runnable.from c.state_on_one.ensures.answers c.requires.selection c.in-Ok.ensures.taken.columns c.requires.of_job.column);
}

pub returns-in-Ok-clause-of_job : goal.returns-in-Ok-clause-of_job
returns-in-Ok-clause-of_job c = record {
  node = c.requires.runnable.from.node;
  state = c.state_on_one.ensures.stands;
  column = selection_columns (setting_of c.args.job.now) c.args.node (node_of c.args.input) (state_of c.args.input) c.state_on_one.result
      c.in-Ok.ensures.taken.rows (shown_columns c.args.input.table.columns) (shown_columns c.in-Ok.table.columns) c.args.job.now.ready
      c.requires.runnable.from c.state_on_one.ensures.answers c.requires.selection c.in-Ok.ensures.taken.columns c.requires.of_job.column;
  counted = selection_counted (setting_of c.args.job.now) c.args.node (node_of c.args.input) c.args.input.table.counts c.in-Ok.table.counts
      c.args.job.now.ready c.requires.runnable.from c.requires.selection
      (taken_told c.args.input.table.counts c.in-Ok.table.counts c.in-Ok.ensures.taken.rows c.in-Ok.ensures.taken.counts)
      c.requires.of_job.counted;
}

pub returns-in-Ok-clause-opened : goal.returns-in-Ok-clause-opened
returns-in-Ok-clause-opened c =
    let at = one_at (setting_of c.args.job.now) c.args.node (node_of c.args.input) c.args.job.now.ready c.requires.runnable.from in
    columns_opened_at_rows (setting_of c.args.job.now) c.args.keys.now.keys (node_of c.args.input).0 c.args.node.0 c.in-Ok.ensures.taken.rows
    (shown_columns c.args.input.table.columns) (shown_columns c.in-Ok.table.columns)
    (before_group (setting_of c.args.job.now) (node_of c.args.input).0 c.args.node.0 at.below) c.in-Ok.ensures.taken.columns c.requires.opened
