use Rattle.std.proofs.Common.{ℕ, arith}
use borrow.Author.Count.{below_more}
use Rattle.key_clusters.specs.Laws.{IfPair, ShareKey}
use Rattle.plan_algebra.specs.Facts.{node_at}
use Rattle.plan_runner.proofs.run.compared_share_keys.Goals as goal

pub loop-n-preserved : goal.loop-n-preserved
loop-n-preserved c =
    let job = c.args.job.now in
    below_more (λ (m : ℕ). IfPair (node_at job.facts.plan.nodes m).op (ShareKey job.facts job.policy.now.ceiling c.args.seed.now))
    c.loop-n.n c.loop-n.invariant c.compared_share_a_key.ensures

pub returns : goal.returns
returns c = λ n within. c.loop-n.invariant n (omega arith)
