use Rattle.plan_algebra.proofs.StandLaws.{plan_facts, plan_stands}
use Rattle.plan_algebra.proofs.plan_facts.PlanFacts.of.Goals as goal

pub gathered-requires : goal.gathered-requires
gathered-requires c = rw c.as_slice.ensures (plan_stands c.args.plan c.requires)

pub invariant_of-result : goal.invariant_of-result
invariant_of-result c = record {
  is_plan = c.requires;
  are_facts = rw (c.in-Ok.ensures, c.as_slice.ensures) (plan_facts c.args.plan c.requires);
  are_used = rw c.as_slice-in-Ok.ensures at c.leaves_set-used.ensures;
}
