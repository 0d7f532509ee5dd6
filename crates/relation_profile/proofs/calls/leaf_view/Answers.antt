use Rattle.plan_algebra.specs.Facts.{facts_at, node_at}
use Rattle.plan_algebra.specs.Kinds.{kind_of}
use Rattle.relation_profile.proofs.ViewLaws.{leaf_stands, leaf_within}
use Rattle.relation_profile.proofs.calls.leaf_view.Goals as goal

pub returns-clause-stands : goal.returns-clause-stands
returns-clause-stands c =
    leaf_stands (facts_at c.args.facts.now.nodes) c.args.node.0 (node_at c.args.facts.now.plan.nodes c.args.node.0).op
    (kind_of (node_at c.args.facts.now.plan.nodes c.args.node.0)) c.args.rest.0 c.intersection.result
    (c.args.facts.now.are_facts.node c.args.node.0 c.requires.node) c.requires.leaf (rw c.visible.ensures at c.intersection.ensures)

pub returns-clause-within : goal.returns-clause-within
returns-clause-within c =
    leaf_within (facts_at c.args.facts.now.nodes c.args.node.0) c.args.rest.0 c.intersection.result
    (rw c.visible.ensures at c.intersection.ensures)
