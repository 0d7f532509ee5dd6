use Rattle.extended_plan.proofs.ListLaws.{outcomes_exact}
use Rattle.extended_plan.proofs.list_laws.outcomes_are_exact.Goals as goal

pub returns : goal.returns
returns c s = outcomes_exact s
