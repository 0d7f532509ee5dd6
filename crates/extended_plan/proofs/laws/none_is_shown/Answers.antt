use Rattle.extended_plan.proofs.BoundLaws.{none_shown}
use Rattle.extended_plan.proofs.laws.none_is_shown.Goals as goal

pub returns : goal.returns
returns c = none_shown
