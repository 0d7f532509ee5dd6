use Rattle.std.proofs.Common.{◌∙◌}
use Rattle.policy_base.specs.Accepted.{plain_of, sealed_of}
use Rattle.extended_plan.specs.Gains.{shown}
use Rattle.extended_plan.specs.Job.{setting_of}
use Rattle.extended_plan.proofs.JobLaws.{passes}
use Rattle.extended_plan.proofs.step.may_hold.Goals as goal

pub returns : goal.returns
returns c =
    c.is_ok.ensures.value
    ∙ passes (plain_of c.args.job.now.policy.now c.args.state.now.holder.0) (sealed_of c.args.job.now.policy.now c.args.state.now.holder.0)
    (shown (setting_of c.args.job.now) c.args.node.0 c.args.state.now) c.check_view.result c.check_view.ensures.found
