use Rattle.sealed_column.proofs.LockLaws.{seals_open}
use Rattle.sealed_column.proofs.laws.columns_open.Goals as goal

pub returns : goal.returns
returns c = seals_open
