use Rattle.sealed_column.specs.SealLaws.{seal_length}
use Rattle.sealed_column.proofs.laws.lengths_are_the_schemes.Goals as goal

pub returns : goal.returns
returns c = seal_length
