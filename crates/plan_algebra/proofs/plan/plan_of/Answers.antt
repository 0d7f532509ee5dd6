use Rattle.std.proofs.Common.{◌∙◌, ap, length}
use Rattle.plan_algebra.proofs.CountLaws.{plan-count, plan-few}
use Rattle.plan_algebra.proofs.GroupedLaws.{plan-sound}
use Rattle.plan_algebra.proofs.LeavesLaws.{plan-uses}
use Rattle.plan_algebra.proofs.LeafTableLaws.{plan-leaves}
use Rattle.plan_algebra.proofs.MeaningLaws.{plan_means_query}
use Rattle.plan_algebra.proofs.PlanLaws.{plan-tree}
use Rattle.plan_algebra.proofs.SmallLaws.{query-small}
use Rattle.plan_algebra.proofs.plan.plan_of.Goals as goal

pub nodes_of-requires-clause-small : goal.nodes_of-requires-clause-small
nodes_of-requires-clause-small c = query-small c.args.schema.now c.args.q.now c.requires.schema c.requires.bound

pub nodes_of-requires-clause-few : goal.nodes_of-requires-clause-few
nodes_of-requires-clause-few c = plan-few c.args.schema.now c.args.q.now c.requires.bound

pub returns-clause-planned : goal.returns-clause-planned
returns-clause-planned c = c.in_ok-nodes.ensures ∙ plan-tree c.args.schema.now c.args.q.now

pub returns-clause-counted : goal.returns-clause-counted
returns-clause-counted c = ap length c.in_ok-nodes.ensures ∙ plan-count c.args.schema.now c.args.q.now c.requires.bound

pub returns-clause-sound : goal.returns-clause-sound
returns-clause-sound c =
    plan-sound c.args.schema.now c.args.q.now c.requires.schema c.requires.bound c.in_ok-nodes.nodes
    (c.in_ok-nodes.ensures ∙ plan-tree c.args.schema.now c.args.q.now)

pub returns-clause-means : goal.returns-clause-means
returns-clause-means c =
    plan_means_query c.args.schema.now c.args.q.now (record { nodes = c.in_ok-nodes.nodes }) c.requires.schema c.requires.bound
    (c.in_ok-nodes.ensures ∙ plan-tree c.args.schema.now c.args.q.now)

pub returns-clause-used : goal.returns-clause-used
returns-clause-used c =
    plan-uses c.args.schema.now c.args.q.now c.requires.schema c.requires.bound c.in_ok-nodes.nodes
    (c.in_ok-nodes.ensures ∙ plan-tree c.args.schema.now c.args.q.now)

pub returns-clause-leaves : goal.returns-clause-leaves
returns-clause-leaves c =
    plan-leaves c.args.schema.now c.args.q.now c.requires.schema c.requires.bound c.in_ok-nodes.nodes
    (c.in_ok-nodes.ensures ∙ plan-tree c.args.schema.now c.args.q.now)
