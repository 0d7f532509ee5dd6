use Rattle.std.proofs.Common.{◌∙◌, sym}
use Rattle.std.proofs.lemmas.Result.{IfOk-weaker}
use Rattle.row_algebra.specs.Tests.{holds}
use Rattle.column_table.proofs.PairRows.{pairs_equal}
use Rattle.column_table.specs.inside.Pairs.{pairs_by}
use Rattle.column_table.proofs.pairs.ordered_pairs.Goals as goal

pub returns-in-Eq : goal.returns-in-Eq
returns-in-Eq g c =
    IfOk-weaker c.pairs.result _ _
    (λ made is. is ∙ pairs_equal g.C.Ord.cmp g.met.C.Ord.total 0 c.args.left.now c.args.right.now
    ∙ (λ i. pairs_by (λ e d. holds (sym c.in-Eq.is i) (g.C.Ord.cmp e d)) 0 c.args.left.now c.args.right.now)) c.pairs.ensures
