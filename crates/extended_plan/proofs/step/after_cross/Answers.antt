use Rattle.extended_plan.specs.Job.{setting_of}
use Rattle.extended_plan.proofs.CrossLaws.{held_across}
use Rattle.extended_plan.proofs.step.after_cross.Goals as goal

pub returns-clause-within : goal.returns-clause-within
returns-clause-within c =
    rw c.of.ensures (held_across (setting_of c.args.job.now) c.args.node.0 c.args.a.0 c.args.first.now c.requires.held c.requires.crosses)
