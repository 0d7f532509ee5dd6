use Rattle.std.proofs.Common.{◌≡◌, not, take}
use Rattle.std.specs.Prelude.{filter}
use Rattle.plan_algebra.specs.Families.{meets}
use Rattle.plan_algebra.proofs.families.without_meeting.Given as goal

abbrev pub invariant-loop-other : goal.invariant-loop-other
invariant-loop-other l = l.kept.items ≡ filter (λ s. not (meets l.both s)) (take l.other-index l.family)
