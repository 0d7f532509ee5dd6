use Rattle.std.proofs.Common.{◌-◌, length}
use Rattle.extended_plan.specs.Term.{Term, spell}
use Rattle.assign_table.specs.inside.Ways.{IsToldTo, Leads}
use Rattle.assign_table.proofs.spell.steps_of.Given as goal

abbrev pub invariant-telling : goal.invariant-telling
invariant-telling l = (x : Term) → Leads l.settled l.fn.way x → IsToldTo l.settled l.ways.items l.told.items (spell x)

abbrev pub decreases-telling : goal.decreases-telling
decreases-telling l = 200001 - length l.told.items
