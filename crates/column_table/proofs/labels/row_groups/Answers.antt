use Rattle.std.proofs.Common.{◌∙◌, ap}
use Rattle.std.proofs.lemmas.Result.{IfOk-weaker}
use Rattle.std.specs.Ordering.{nat_cmp}
use Rattle.column_table.specs.inside.Labels.{same_rows}
use Rattle.column_table.proofs.LabelRows.{groups_labelled, nat_tells}
use Rattle.sealed_column.specs.Rows.{groups_of}
use Rattle.column_table.proofs.labels.row_groups.Goals as goal

pub returns : goal.returns
returns c =
    IfOk-weaker c.groups.result _ _
    (λ found is. is ∙ ap (groups_of nat_cmp) c.as_slice.ensures.value
    ∙ groups_labelled nat_cmp nat_tells c.in_ok-labels.labels.items (same_rows c.args.table.now c.args.set.0) c.args.table.now.rows
    c.in_ok-labels.ensures) c.groups.ensures
