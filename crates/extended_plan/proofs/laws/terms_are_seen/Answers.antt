use Rattle.extended_plan.proofs.ViewLaws.{seen}
use Rattle.extended_plan.proofs.laws.terms_are_seen.Goals as goal

pub returns : goal.returns
returns c = seen
