use Rattle.plan_algebra.proofs.FamilyLaws.{united-step}
use Rattle.plan_algebra.proofs.families.place_all.Goals as goal

pub loop-set-preserved : goal.loop-set-preserved
loop-set-preserved c =
    united-step _ c.loop-set.family.items c.place.new.family.items c.args.other.now c.loop-set.set-index _ c.loop-set-test.true
    c.in_ok-place.ensures c.loop-set.invariant
