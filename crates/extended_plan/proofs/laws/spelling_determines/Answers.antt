use Rattle.extended_plan.proofs.SpellLaws.{spelling_determines}
use Rattle.extended_plan.proofs.laws.spelling_determines.Goals as goal

pub returns : goal.returns
returns c = spelling_determines
