use Rattle.std.proofs.Common.{not, ap}
use Rattle.plan_algebra.specs.Families.{meets}
use Rattle.plan_algebra.proofs.FamilyLaws.{keeping-step}
use Rattle.plan_algebra.proofs.families.without_meeting.Goals as goal

pub loop-other-preserved : goal.loop-other-preserved
loop-other-preserved c =
    keeping-step (λ s. not (meets c.args.both s)) c.loop-other.kept.items _ c.args.family.now c.loop-other.other-index _ _ c.loop-other-test.true
    (ap not c.meets.ensures) c.in_ok-push_if.ensures c.loop-other.invariant
