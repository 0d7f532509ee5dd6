use Rattle.std.proofs.Common.{◌∙◌, ap, ◌++◌, [], ◌∷◌, if◌then◌else◌}
use Rattle.std.proofs.lemmas.List.{take_all}
use Rattle.column_table.specs.inside.Pairs.{rows_where}
use Rattle.row_algebra.specs.Tests.{holds}
use Rattle.column_table.proofs.PairRows.{compared_more}
use Rattle.sealed_column.specs.Rows.{paired}
use Rattle.column_table.proofs.pairs.add_compared.Goals as goal

pub loop-other-preserved : goal.loop-other-preserved
loop-other-preserved g c =
    compared_more (λ d. holds c.args.op (g.C.Ord.cmp c.args.cell.now d)) c.args.others.now c.loop-other.other c.args.row
    c.index-others-other.result c.args.made.now.items c.loop-other.made.items c.push_if.new.items.items c.loop-other-test.true
    c.index-others-other.is c.loop-other.invariant
    (c.in_ok-push_if.ensures
    ∙ ap (λ b. c.loop-other.made.items ++ (if b then record { left = c.args.row; right = c.loop-other.other } ∷ [] else []))
    (c.holds.ensures ∙ ap (holds c.args.op) c.cmp.ensures))

pub returns : goal.returns
returns g c =
    c.loop-other.invariant
    ∙ ap (λ cells. c.args.made.now.items ++ paired c.args.row (rows_where (λ d. holds c.args.op (g.C.Ord.cmp c.args.cell.now d)) 0 cells))
    (take_all c.loop-other.other c.args.others.now c.loop-other-test.false)
