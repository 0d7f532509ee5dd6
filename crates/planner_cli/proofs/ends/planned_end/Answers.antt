use Rattle.std.proofs.Common.{Err, ap}
use Rattle.extended_plan.specs.Job.{setting_of}
use Rattle.planner_cli.proofs.Ending.{ends_planned, ends_wide}
use Rattle.planner_cli.proofs.ends.planned_end.Goals as goal

pub returns-in_ok-text-in-Ok : goal.returns-in_ok-text-in-Ok
returns-in_ok-text-in-Ok c =
    ends_planned (setting_of c.args.job.now) c.args.job.now.query.now c.args.tables c.args.steps.now c.args.cost c.in-Ok.rows.items _
    c.requires.plan c.requires.within c.requires.few c.in-Ok.ensures.narrow c.in-Ok.ensures.rows
    (rw c.as_slice-items.ensures at c.in_ok-text-in-Ok.ensures)

pub returns-in-Err-RowRange : goal.returns-in-Err-RowRange
returns-in-Err-RowRange c =
    ends_wide (setting_of c.args.job.now) c.args.job.now.query.now c.args.tables c.args.steps.now c.args.cost c.in-Err-RowRange.node _ _
    c.requires.plan c.requires.within c.requires.few
    (c.in-Err-RowRange.ensures.range c.in-Err-RowRange.node (ap (λ e. Err e) c.in-Err-RowRange.field-0-is))
    c.silent.ensures.status c.silent.ensures.text
