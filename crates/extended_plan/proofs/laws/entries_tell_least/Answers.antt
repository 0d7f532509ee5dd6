use Rattle.extended_plan.proofs.LeastLaws.{entries_least, least_entries}
use Rattle.extended_plan.proofs.laws.entries_tell_least.Goals as goal

pub returns-clause-tells : goal.returns-clause-tells
returns-clause-tells c = entries_least

pub returns-clause-made : goal.returns-clause-made
returns-clause-made c = least_entries
