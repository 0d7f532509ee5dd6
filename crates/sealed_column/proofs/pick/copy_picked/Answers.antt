use Rattle.sealed_column.proofs.CellLaws.{picked_more}
use Rattle.sealed_column.proofs.pick.copy_picked.Goals as goal

pub loop-row-preserved : goal.loop-row-preserved
loop-row-preserved g c =
    picked_more c.args.cells.now c.args.rows.now c.loop-row.row-index c.in_ok-copy_cell.field-0 c.index-cells-row.result
    c.loop-row.taken.items c.push.new.self.items c.loop-row-test.true
    (c.requires c.loop-row.row-index 0 c.loop-row-test.true) c.index-cells-row.is c.in_ok-copy_cell.ensures
    c.loop-row.invariant c.in_ok-push.ensures.items
