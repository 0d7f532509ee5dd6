use Rattle.std.proofs.Common.{ℕ, ◌<◌}
use Rattle.key_clusters.specs.Laws.{IfPair, ShareKey}
use Rattle.plan_algebra.specs.Facts.{node_at}
use Rattle.plan_runner.proofs.run.compared_share_keys.Given as goal

abbrev pub invariant-loop-n : goal.invariant-loop-n
invariant-loop-n l =
    (m : ℕ) → m < l.n → IfPair (node_at l.job.facts.plan.nodes m).op (ShareKey l.job.facts l.job.policy.now.ceiling l.seed)
