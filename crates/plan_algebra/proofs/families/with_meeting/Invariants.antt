use Rattle.std.proofs.Common.{◌≡◌, drop}
use Rattle.std.specs.Prelude.{filter}
use Rattle.plan_algebra.specs.Families.{meets, with_all}
use Rattle.plan_algebra.proofs.families.with_meeting.Given as goal

abbrev pub invariant-loop-other : goal.invariant-loop-other
invariant-loop-other l =
    with_all l.both (filter (meets l.both) l.family) ≡ with_all l.set (filter (meets l.both) (drop l.other-index l.family))
