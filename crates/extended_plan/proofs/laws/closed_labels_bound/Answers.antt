use Rattle.extended_plan.proofs.BoundLaws.{bound}
use Rattle.extended_plan.proofs.laws.closed_labels_bound.Goals as goal

pub returns : goal.returns
returns c = bound
