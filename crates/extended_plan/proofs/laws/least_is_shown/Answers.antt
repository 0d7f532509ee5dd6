use Rattle.extended_plan.proofs.BoundLaws.{least_shown}
use Rattle.extended_plan.proofs.laws.least_is_shown.Goals as goal

pub returns : goal.returns
returns c = least_shown
