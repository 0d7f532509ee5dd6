use Rattle.std.proofs.Common.{IfSome, None, false, refl, subst, sym, true, ◌∙◌}
use Rattle.mq_base.specs.declared.plan.Step.TheVariants as step
use Rattle.cost_model.specs.Costs.{basis_of, cut, step_work}
use Rattle.extended_plan.specs.Job.{IsStateAt, setting_of}
use Rattle.extended_plan.proofs.GainLaws.{ran_stands, sent_work, told_none, told_of}
use Rattle.extended_plan.proofs.step.after_send.Goals as goal

pub returns-then-may_hold-clause-within : goal.returns-then-may_hold-clause-within
returns-then-may_hold-clause-within c = record {
  at =
      subst (λ found. IfSome found (IsStateAt (setting_of c.args.job.now) c.args.node.0)) (sym c.in_ok-holder.ensures)
      (ran_stands (setting_of c.args.job.now) c.args.node (step.Send c.args.to) c.args.first.now None c.args.job.now.ready c.requires.taken);
  held = sym c.may_hold.ensures ∙ c.if-may_hold.true;
}

pub returns-then-may_hold-clause-answers : goal.returns-then-may_hold-clause-answers
returns-then-may_hold-clause-answers c =
    let s = setting_of c.args.job.now in
    told_of s c.args.node (step.Send c.args.to) c.args.first.now None c.in_ok-holder.field-0 true c.send_cost.result c.args.job.now.ready
    c.requires.taken c.in_ok-holder.ensures (sym c.may_hold.ensures ∙ c.if-may_hold.true)
    (sent_work s (basis_of c.base.result) c.args.first.now.holder.0 c.args.to.0 c.args.node.0 c.args.first.now.view c.load_of-bytes.result
    c.send_cost.result c.base.ensures c.load_of-bytes.ensures c.send_cost.ensures)

pub returns-else-may_hold-clause-answers : goal.returns-else-may_hold-clause-answers
returns-else-may_hold-clause-answers c =
    let s = setting_of c.args.job.now in
    told_of s c.args.node (step.Send c.args.to) c.args.first.now None c.in_ok-holder.field-0 false
    (cut (step_work s.basis (step.Send c.args.to) c.args.first.now.holder.0 c.args.node.0 c.args.first.now.view)) c.args.job.now.ready
    c.requires.taken c.in_ok-holder.ensures (sym c.may_hold.ensures ∙ c.if-may_hold.false) refl

pub returns-in_err-holder-clause-answers : goal.returns-in_err-holder-clause-answers
returns-in_err-holder-clause-answers c =
    c.from_residual.ensures
    ∙ told_none (setting_of c.args.job.now) c.args.node (step.Send c.args.to) c.args.first.now None c.args.job.now.ready c.requires.taken
    c.in_err-holder.ensures
