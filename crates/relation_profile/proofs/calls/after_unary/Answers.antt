use Rattle.std.proofs.Common.{◌∙◌, ap, subst, sym}
use Rattle.plan_algebra.specs.declared.kind.Kind.{Kind}
use Rattle.plan_algebra.specs.Facts.{facts_at, node_at}
use Rattle.relation_profile.specs.Nodes.{IsOneView, one_after}
use Rattle.relation_profile.proofs.ViewLaws.{one_answer_stands, one_answer_within}
use Rattle.relation_profile.proofs.calls.after_unary.Goals as goal

pub returns-in-One-clause-stands : goal.returns-in-One-clause-stands
returns-in-One-clause-stands c =
    one_answer_stands c.args.schemes.now (node_at c.args.facts.now.plan.nodes c.args.node.0).op (facts_at c.args.facts.now.nodes c.in-One.x.0)
    (facts_at c.args.facts.now.nodes c.args.node.0) c.args.view.now c.one.result c.in-One.ensures.facts.are
    (rw (c.operation.ensures, c.facts.ensures) at c.one.ensures)
    ∙ ap (λ (k : Kind). one_after c.args.facts.now c.args.schemes.now (node_at c.args.facts.now.plan.nodes c.args.node.0).op k c.args.view.now)
    c.in-One.ensures.kind

pub returns-in-One-clause-within : goal.returns-in-One-clause-within
returns-in-One-clause-within c =
    one_answer_within c.args.schemes.now (node_at c.args.facts.now.plan.nodes c.args.node.0).op (facts_at c.args.facts.now.nodes c.in-One.x.0)
    (facts_at c.args.facts.now.nodes c.args.node.0) c.args.view.now c.one.result c.in-One.ensures.facts.are
    (subst (λ (k : Kind). IsOneView c.args.facts.now k c.args.view.now) (sym c.in-One.ensures.kind) c.requires.view)
    (rw (c.operation.ensures, c.facts.ensures) at c.one.ensures)
