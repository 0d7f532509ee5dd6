use Rattle.extended_plan.proofs.LeastLaws.{least_closed}
use Rattle.extended_plan.proofs.laws.least_labels_are_closed.Goals as goal

pub returns : goal.returns
returns c = least_closed
