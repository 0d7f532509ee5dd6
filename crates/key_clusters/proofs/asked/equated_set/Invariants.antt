use Rattle.std.proofs.Common.{◌≡◌}
use Rattle.base_laws.specs.Folds.{union_to}
use Rattle.key_clusters.specs.Asked.{equated_by}
use Rattle.plan_algebra.specs.Facts.{node_at}
use Rattle.key_clusters.proofs.asked.equated_set.Given as goal

abbrev pub invariant-loop-n : goal.invariant-loop-n
invariant-loop-n l = l.set.0 ≡ union_to (λ n. equated_by (node_at l.facts.plan.nodes n).op) l.n
