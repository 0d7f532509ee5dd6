use Rattle.sealed_column.proofs.SealFacts.{equality_kept}
use Rattle.sealed_column.proofs.laws.equality_is_kept.Goals as goal

pub returns : goal.returns
returns c = equality_kept
