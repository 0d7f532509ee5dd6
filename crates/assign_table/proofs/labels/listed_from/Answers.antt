use Rattle.std.proofs.Common.{[], ◌∷◌, ◌++◌, ◌∙◌, ap, arith}
use Rattle.assign_table.specs.inside.Blocks.{entry_of}
use Rattle.assign_table.specs.inside.Ways.{settled_at}
use Rattle.assign_table.proofs.PlaceLaws.{entries-more}
use Rattle.assign_table.proofs.labels.listed_from.Goals as goal

pub places-preserved : goal.places-preserved
places-preserved c =
    c.in_ok-push.ensures.items
    ∙ ap (λ es. es ++ entry_of (settled_at c.args.settled.now c.places.at) ∷ []) c.places.invariant
    ∙ entries-more c.args.settled.now c.args.from c.places.at (omega arith) (omega arith)
