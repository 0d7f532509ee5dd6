use Rattle.sealed_column.proofs.RowLaws.{pairs_more}
use Rattle.sealed_column.proofs.rows.pairs.Goals as goal

pub loop-row-preserved : goal.loop-row-preserved
loop-row-preserved g c =
    pairs_more g.C.Ord.cmp c.args.left.now c.args.right.now c.loop-row.row c.index-left-row.result c.rows_of.result.now
    c.loop-row.pairs.items c.add_pairs.new.pairs.items c.loop-row-test.true c.index-left-row.is
    (c.rows_of.ensures c.args.right.now c.in_ok-found.ensures) c.loop-row.invariant c.in_ok-add_pairs.ensures
