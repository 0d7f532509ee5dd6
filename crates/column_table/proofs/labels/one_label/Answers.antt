use Rattle.std.proofs.Common.{◌∙◌, ◌++◌, ◌∷◌, [], ap}
use Rattle.std.proofs.lemmas.List.{replicate-append-replicate}
use Rattle.column_table.proofs.labels.one_label.Goals as goal

pub loop-row-preserved : goal.loop-row-preserved
loop-row-preserved c =
    c.in_ok-push.ensures.items ∙ ap (λ ls. ls ++ 0 ∷ []) c.loop-row.invariant ∙ replicate-append-replicate c.loop-row._row 1 0
