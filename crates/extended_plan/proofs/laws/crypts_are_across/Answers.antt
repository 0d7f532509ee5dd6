use Rattle.extended_plan.proofs.CrossLaws.{crypts_across}
use Rattle.extended_plan.proofs.laws.crypts_are_across.Goals as goal

pub returns : goal.returns
returns c = crypts_across
