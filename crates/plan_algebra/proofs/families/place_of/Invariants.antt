use Rattle.std.proofs.Common.{◌≡◌, ◌++◌, drop, take}
use Rattle.plan_algebra.specs.Families.{placed}
use Rattle.plan_algebra.proofs.families.place_of.Given as goal

abbrev pub invariant-loop-at : goal.invariant-loop-at
invariant-loop-at l = placed l.set l.family ≡ take l.at l.family ++ placed l.set (drop l.at l.family)
