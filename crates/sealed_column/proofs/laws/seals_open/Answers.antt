use Rattle.sealed_column.specs.SealLaws.{seal_opens}
use Rattle.sealed_column.proofs.laws.seals_open.Goals as goal

pub returns : goal.returns
returns c = seal_opens
