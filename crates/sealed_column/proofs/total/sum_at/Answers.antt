use Rattle.std.proofs.Common.{arith}
use Rattle.std.proofs.lemmas.Int.{ints}
use Rattle.sealed_column.proofs.CellLaws.{sum_more}
use Rattle.sealed_column.proofs.total.sum_at.Goals as goal

pub loop-row-preserved : goal.loop-row-preserved
loop-row-preserved c =
    let more = sum_more c.args.cells.now c.args.rows.now c.loop-row.row-index c.index-cells-row.result c.loop-row-test.true
    (c.requires.within c.loop-row.row-index 0 c.loop-row-test.true) c.index-cells-row.is in
    (omega (arith, ints), omega (arith, ints), omega (arith, ints))
