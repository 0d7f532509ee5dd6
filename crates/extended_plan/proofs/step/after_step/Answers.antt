use Rattle.std.proofs.Common.{false, true, option_map, refl, sym, Bor, ◌∙◌}
use Rattle.cost_model.specs.Costs.{cut, step_work}
use Rattle.extended_plan.specs.declared.state.State.{State}
use Rattle.extended_plan.specs.Job.{setting_of}
use Rattle.extended_plan.proofs.GainLaws.{told_of}
use Rattle.extended_plan.proofs.step.after_step.Goals as goal

pub returns-then-not-may_hold-clause-answers : goal.returns-then-not-may_hold-clause-answers
returns-then-not-may_hold-clause-answers c =
    told_of (setting_of c.args.job.now) c.args.node c.args.step.now c.args.first.now (option_map (λ (s : Bor State). s.now) c.args.second)
    c.in_ok-holder.field-0 false
    (cut (step_work (setting_of c.args.job.now).basis c.args.step.now c.args.first.now.holder.0 c.args.node.0 c.args.first.now.view))
    c.args.job.now.ready c.requires c.in_ok-holder.ensures.answers (sym c.may_hold.ensures ∙ c.if-not-may_hold.true) refl

pub returns-clause-answers : goal.returns-clause-answers
returns-clause-answers c =
    told_of (setting_of c.args.job.now) c.args.node c.args.step.now c.args.first.now (option_map (λ (s : Bor State). s.now) c.args.second)
    c.in_ok-holder.field-0 true c.work_of.result c.args.job.now.ready c.requires c.in_ok-holder.ensures.answers
    (sym c.may_hold.ensures ∙ c.if-not-may_hold.false) c.work_of.ensures
