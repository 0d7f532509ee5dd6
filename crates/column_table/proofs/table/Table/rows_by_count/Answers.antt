use Rattle.std.proofs.Common.{◌∙◌, ap}
use Rattle.row_algebra.specs.Tests.{passes}
use Rattle.column_table.proofs.ChoiceLaws.{kept_more}
use Rattle.column_table.proofs.table.Table.rows_by_count.Goals as goal

pub loop-row-preserved : goal.loop-row-preserved
loop-row-preserved c =
    kept_more _ c.loop-row.row c.loop-row.kept.items c.push_if.new.items.items c.count_compares.result c.loop-row.invariant
    (c.count_compares.ensures ∙ ap (passes _) c.count.ensures) c.in_ok-push_if.ensures
