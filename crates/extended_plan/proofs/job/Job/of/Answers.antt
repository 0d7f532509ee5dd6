use Rattle.extended_plan.proofs.ReadyLaws.{parts_ready}
use Rattle.extended_plan.proofs.job.Job.of.Goals as goal

pub invariant_of-result : goal.invariant_of-result
invariant_of-result c = record {
  ready =
      parts_ready c.args.policy.now c.args.prices.now c.args.query.now c.in_ok-facts.facts c.clusters-clusters.result
      c.estimates-estimates.result c.requires.accepted c.requires.bound c.in_ok-facts.ensures.leaves;
  planned = c.in_ok-facts.ensures.planned;
  clustered = record { cluster = c.clusters-clusters.ensures.cluster; scheme = c.clusters-clusters.ensures.scheme };
  estimated = c.estimates-estimates.ensures.rows;
}
