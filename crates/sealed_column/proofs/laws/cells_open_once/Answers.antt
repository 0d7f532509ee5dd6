use Rattle.sealed_column.specs.SealLaws.{opens_once}
use Rattle.sealed_column.proofs.laws.cells_open_once.Goals as goal

pub returns : goal.returns
returns c = opens_once
