use Rattle.std.proofs.Common.{◌∙◌, ap, subst, sym}
use Rattle.plan_algebra.specs.declared.kind.Kind.{Kind}
use Rattle.plan_algebra.specs.Facts.{facts_at, node_at}
use Rattle.relation_profile.specs.Nodes.{AreTwoViews, two_after}
use Rattle.relation_profile.proofs.ViewLaws.{two_answer_stands, two_answer_within}
use Rattle.relation_profile.proofs.calls.after_binary.Goals as goal

pub returns-in-Two-clause-stands : goal.returns-in-Two-clause-stands
returns-in-Two-clause-stands c =
    let views = subst (λ (k : Kind). AreTwoViews c.args.facts.now k c.args.left.now c.args.right.now) (sym c.in-Two.ensures.kind) c.requires.views in
    two_answer_stands c.args.schemes.now (node_at c.args.facts.now.plan.nodes c.args.node.0).op (facts_at c.args.facts.now.nodes c.in-Two.x.0)
    (facts_at c.args.facts.now.nodes c.in-Two.y.0) (facts_at c.args.facts.now.nodes c.args.node.0) c.args.left.now c.args.right.now
    c.two.result c.in-Two.ensures.facts.are c.in-Two.ensures.facts.stands views.0 views.1
    (rw (c.operation.ensures, c.facts.ensures, c.facts-in-Two.ensures) at c.two.ensures)
    ∙ ap (λ (k : Kind). two_after c.args.facts.now c.args.schemes.now (node_at c.args.facts.now.plan.nodes c.args.node.0).op k c.args.left.now c.args.right.now)
    c.in-Two.ensures.kind

pub returns-in-Two-clause-within : goal.returns-in-Two-clause-within
returns-in-Two-clause-within c =
    let views = subst (λ (k : Kind). AreTwoViews c.args.facts.now k c.args.left.now c.args.right.now) (sym c.in-Two.ensures.kind) c.requires.views in
    two_answer_within c.args.schemes.now (node_at c.args.facts.now.plan.nodes c.args.node.0).op (facts_at c.args.facts.now.nodes c.in-Two.x.0)
    (facts_at c.args.facts.now.nodes c.in-Two.y.0) (facts_at c.args.facts.now.nodes c.args.node.0) c.args.left.now c.args.right.now
    c.two.result c.in-Two.ensures.facts.are c.in-Two.ensures.facts.stands views.0 views.1
    (rw (c.operation.ensures, c.facts.ensures, c.facts-in-Two.ensures) at c.two.ensures)
