use Rattle.plan_algebra.specs.Families.{meets}
use Rattle.plan_algebra.proofs.FamilyLaws.{meeting-step}
use Rattle.plan_algebra.proofs.families.with_meeting.Goals as goal

pub loop-other-preserved : goal.loop-other-preserved
loop-other-preserved c =
    meeting-step (meets c.args.both) _ c.loop-other.set c.with_if-set.result c.args.family.now c.loop-other.other-index _ _ c.loop-other-test.true
    c.meets.ensures c.with_if-set.ensures c.loop-other.invariant
