use Rattle.std.proofs.Common.{arith, take}
use Rattle.std.proofs.lemmas.List.{length-take-le}
use Rattle.sealed_column.proofs.RowLaws.{index_more}
use Rattle.sealed_column.proofs.rows.index.Goals as goal

pub loop-row-preserved : goal.loop-row-preserved
loop-row-preserved g c =
    index_more g.C.Ord.cmp c.put.new.found c.args.cells.now c.loop-row.row c.index-cells-row.result c.loop-row-test.true c.index-cells-row.is
    (c.in_ok-put.ensures (take c.loop-row.row c.args.cells.now) (length-take-le c.loop-row.row c.args.cells.now (omega arith)) c.loop-row.invariant)
