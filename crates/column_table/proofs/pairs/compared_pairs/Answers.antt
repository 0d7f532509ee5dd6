use Rattle.std.proofs.Common.{◌∙◌, ap}
use Rattle.std.proofs.lemmas.List.{take_all}
use Rattle.column_table.specs.inside.Pairs.{pairs_by}
use Rattle.row_algebra.specs.Tests.{holds}
use Rattle.column_table.proofs.PairRows.{pairs_by_more}
use Rattle.column_table.proofs.pairs.compared_pairs.Goals as goal

pub loop-row-preserved : goal.loop-row-preserved
loop-row-preserved g c =
    pairs_by_more (λ e d. holds c.args.op (g.C.Ord.cmp e d)) c.args.left.now c.args.right.now c.loop-row.row c.index-left-row.result
    c.loop-row.made.items c.add_compared.new.made.items c.loop-row-test.true c.index-left-row.is c.loop-row.invariant
    c.in_ok-add_compared.ensures

pub returns : goal.returns
returns g c =
    c.loop-row.invariant
    ∙ ap (λ cells. pairs_by (λ e d. holds c.args.op (g.C.Ord.cmp e d)) 0 cells c.args.right.now)
    (take_all c.loop-row.row c.args.left.now c.loop-row-test.false)
