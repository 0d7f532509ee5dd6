use Rattle.extended_plan.proofs.TermLaws.{terms_gained}
use Rattle.extended_plan.proofs.laws.terms_are_gained.Goals as goal

pub returns : goal.returns
returns c = terms_gained
