use Rattle.view_authority.proofs.BreachLaws.{exactly}
use Rattle.view_authority.proofs.conditions.may_exactly.Goals as goal

pub returns : goal.returns
returns c plain sealed p = exactly plain sealed p
