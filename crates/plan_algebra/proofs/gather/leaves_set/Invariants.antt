use Rattle.std.proofs.Common.{◌≡◌}
use Rattle.base_laws.specs.Folds.{union_to}
use Rattle.plan_algebra.specs.Facts.{leaf_set, node_at}
use Rattle.plan_algebra.proofs.gather.leaves_set.Given as goal

abbrev pub invariant-loop-node : goal.invariant-loop-node
invariant-loop-node l = l.set.0 ≡ union_to (λ n. leaf_set (node_at l.nodes n).op) l.node-index
