use Rattle.extended_plan.proofs.TermLaws.{gains_terms}
use Rattle.extended_plan.proofs.laws.gains_are_terms.Goals as goal

pub returns : goal.returns
returns c = gains_terms
