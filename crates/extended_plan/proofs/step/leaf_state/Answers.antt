use Rattle.std.proofs.Common.{refl, sym, ◌∙◌, arith}
use Rattle.std.proofs.Math.Path.{subst}
use Rattle.std.specs.Prelude.{IfSome}
use Rattle.extended_plan.specs.Job.{IsLeafState, setting_of}
use Rattle.extended_plan.proofs.JobLaws.{leaf_gained, leaf_within}
use Rattle.extended_plan.proofs.step.leaf_state.Goals as goal

pub where_held-requires-clause-holder : goal.where_held-requires-clause-holder
where_held-requires-clause-holder c =
    let few = c.args.job.now.ready.few_subjects in
    let known = c.leaf_at.ensures.stands.known in
    omega (arith, few, known)

pub returns-clause-answers : goal.returns-clause-answers
returns-clause-answers c =
    c.where_held.ensures
    ∙ leaf_gained (setting_of c.args.job.now) c.in_ok-at.at c.args.t c.leaf_at.result c.args.job.now.ready (sym c.in_ok-at.ensures)
    c.leaf_at.ensures.answers

pub returns-clause-within : goal.returns-clause-within
returns-clause-within c =
    subst (λ o. IfSome o (IsLeafState (setting_of c.args.job.now) c.args.t)) (sym c.where_held.ensures)
    (leaf_within (setting_of c.args.job.now) c.in_ok-at.at c.args.t _ c.leaf_at.result (sym c.in_ok-at.ensures) c.leaf_at.ensures.stands refl)
