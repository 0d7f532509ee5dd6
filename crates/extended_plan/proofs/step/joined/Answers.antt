use Rattle.std.proofs.Common.{IfSome, Some, ap, refl, subst, sym, ◌∙◌}
use Rattle.std.specs.Prelude.{option_map}
use Rattle.mq_base.specs.declared.plan.Step.TheVariants as step
use Rattle.relation_profile.specs.View.{view_of}
use Rattle.extended_plan.specs.Job.{IsStateAt, setting_of}
use Rattle.extended_plan.specs.Setting.{kind_at, op_at}
use Rattle.extended_plan.proofs.GainLaws.{joined_is, ran_stands, two_same, two_viewed}
use Rattle.extended_plan.proofs.step.joined.Goals as goal

pub after_binary-requires-clause-views : goal.after_binary-requires-clause-views
after_binary-requires-clause-views c =
    two_viewed c.args.job.now (kind_at (setting_of c.args.job.now) c.args.node.0) c.args.left.now c.args.right.now c.requires.operands

pub returns-clause-answers : goal.returns-clause-answers
returns-clause-answers c =
    let s = setting_of c.args.job.now in
    joined_is s c.args.node c.args.left.now c.args.right.now c.after_binary.result c.at_holder.result c.if-left-right.false
    (c.after_binary.ensures.answers
    ∙ ap (option_map view_of) (two_same c.args.job.now (op_at s c.args.node.0) (kind_at s c.args.node.0) c.args.left.now c.args.right.now))
    c.at_holder.ensures

pub returns-clause-stands : goal.returns-clause-stands
returns-clause-stands c =
    let s = setting_of c.args.job.now in
    subst (λ found. IfSome found (IsStateAt s c.args.node.0)) (sym (returns-clause-answers c))
    (ran_stands s c.args.node (step.Bin c.args.node) c.args.left.now (Some c.args.right.now) c.args.job.now.ready
    (record { node = c.requires.node; taken = (refl, c.requires.operands) }))
