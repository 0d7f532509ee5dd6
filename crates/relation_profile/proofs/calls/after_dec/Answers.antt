use Rattle.plan_algebra.specs.Facts.{facts_at}
use Rattle.relation_profile.proofs.ViewLaws.{dec_answer_stands, dec_answer_within}
use Rattle.relation_profile.proofs.calls.after_dec.Goals as goal

pub returns-clause-stands : goal.returns-clause-stands
returns-clause-stands c =
    dec_answer_stands c.args.a.0 (facts_at c.args.facts.now.nodes c.args.node.0) c.args.view.now c.dec.result
    c.requires.view (rw c.facts.ensures at c.dec.ensures)

pub returns-clause-within : goal.returns-clause-within
returns-clause-within c =
    dec_answer_within c.args.a.0 (facts_at c.args.facts.now.nodes c.args.node.0) c.args.view.now c.dec.result
    c.requires.view (rw c.facts.ensures at c.dec.ensures)
