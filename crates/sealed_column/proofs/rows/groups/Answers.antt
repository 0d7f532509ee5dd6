use Rattle.sealed_column.proofs.RowLaws.{groups_more}
use Rattle.sealed_column.proofs.rows.groups.Goals as goal

pub loop-row-preserved : goal.loop-row-preserved
loop-row-preserved g c =
    groups_more g.C.Ord.cmp g.met.C.Ord.total c.args.cells.now c.loop-row.row c.index-cells-row.result c.rows_of.result.now
    c.loop-row.groups.items c.add_group.new.groups.items c.loop-row-test.true c.index-cells-row.is
    (c.rows_of.ensures c.args.cells.now c.in_ok-found.ensures) c.loop-row.invariant c.in_ok-add_group.ensures
