-- The setting that the parts of a job make, and what these parts are. docs/MODEL.md, "Extended plans", tells it in prose.
use Rattle.std.specs.Prelude.{◌≡◌, map}
use Rattle.std.specs.List.{range_with_len}
use Rattle.cost_model.specs.declared.estimated.Estimates.{Estimates}
use Rattle.cost_model.specs.Estimates.{estimates_of, padded}
use Rattle.key_clusters.specs.declared.assigned.Clusters.{Clusters}
use Rattle.key_clusters.specs.Clusters.{cluster_in, scheme_in}
use Rattle.mq_base.specs.declared.query.Query.{Query}
use Rattle.plan_algebra.specs.declared.plan_facts.PlanFacts.{PlanFacts}
use Rattle.plan_algebra.specs.Nodes.{nodes_of}
use Rattle.plan_algebra.specs.Plan.{plan_tree}
use Rattle.policy_base.specs.declared.policy.Policy.{Policy}
use Rattle.policy_base.specs.declared.prices.Prices.{Prices}
use Rattle.extended_plan.specs.Setting.{Setting}

-- the setting of these parts
abbrev pub setting_by : Policy → Prices → PlanFacts → Clusters → Estimates → Setting
setting_by policy prices facts clusters estimates = record {
  policy = policy;
  basis = record {
    nodes = facts.plan.nodes;
    facts = facts.nodes;
    rows = estimates.rows;
    clusters = clusters;
    prices = prices;
    schema = policy.schema;
  };
}

-- the facts are those of the plan of the query
abbrev pub IsPlanOf : Policy → Query → PlanFacts → Type 0
IsPlanOf policy query facts = facts.plan.nodes ≡ nodes_of 0 (plan_tree policy.schema query)

-- the clusters and their schemes are those of the plan, under the policy's ceilings
pub record AreClustersOf (policy : Policy) (facts : PlanFacts) (clusters : Clusters) : Type 0 where
  pub cluster : clusters.cluster ≡ map (cluster_in facts) (range_with_len 0 64)
  pub scheme : clusters.scheme ≡ map (scheme_in facts policy.ceiling) (range_with_len 0 64)

-- the estimates are those of the plan, by the stated prices
abbrev pub AreEstimatesOf : Prices → PlanFacts → Estimates → Type 0
AreEstimatesOf prices facts estimates = estimates.rows ≡ padded (estimates_of prices facts.plan.nodes)
