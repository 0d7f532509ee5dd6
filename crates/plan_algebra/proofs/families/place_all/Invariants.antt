use Rattle.std.proofs.Common.{◌≡◌, drop}
use Rattle.plan_algebra.specs.Families.{united}
use Rattle.plan_algebra.proofs.families.place_all.Given as goal

abbrev pub invariant-loop-set : goal.invariant-loop-set
invariant-loop-set l = united l.initial.family.items l.other ≡ united l.family.items (drop l.set-index l.other)
