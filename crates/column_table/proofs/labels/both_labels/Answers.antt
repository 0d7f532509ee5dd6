use Rattle.std.proofs.Common.{◌∙◌}
use Rattle.std.proofs.lemmas.Result.{IfOk-weaker}
use Rattle.column_table.proofs.LabelRows.{pair_tells, pairs_labelled}
use Rattle.column_table.proofs.labels.both_labels.Goals as goal

pub returns : goal.returns
returns c =
    IfOk-weaker c.first_rows.result _ _
    (λ made tells.
    pairs_labelled _ (λ p q. pair_tells p.left q.left p.right q.right) c.args.labels.now c.args.others.now c.as_slice.result.now made.items c.requires
    (c.as_slice.ensures.value ∙ c.in_ok-pairs.ensures) tells) c.first_rows.ensures
