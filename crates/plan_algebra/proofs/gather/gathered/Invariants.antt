use Rattle.std.proofs.Common.{◌≡◌, [], drop}
use Rattle.plan_algebra.specs.inside.Gathering.{AllStand, facts_after}
use Rattle.plan_algebra.proofs.gather.gathered.Given as goal

abbrev pub invariant-loop-node : goal.invariant-loop-node
invariant-loop-node l = record {
  left : facts_after [] l.nodes ≡ facts_after l.facts (drop l.node-index l.nodes);
  stand : AllStand l.facts (drop l.node-index l.nodes);
}
