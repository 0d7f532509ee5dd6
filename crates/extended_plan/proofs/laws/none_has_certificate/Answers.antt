use Rattle.extended_plan.proofs.LeastLaws.{none_certified}
use Rattle.extended_plan.proofs.laws.none_has_certificate.Goals as goal

pub returns : goal.returns
returns c = none_certified
