use Rattle.extended_plan.proofs.LeastLaws.{least_certified}
use Rattle.extended_plan.proofs.laws.least_has_certificate.Goals as goal

pub returns : goal.returns
returns c = least_certified
