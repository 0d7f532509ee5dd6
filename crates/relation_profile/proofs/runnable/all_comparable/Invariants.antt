use Rattle.std.proofs.Common.{◌≡◌}
use Rattle.relation_profile.specs.Runnable.{all_comparable}
use Rattle.relation_profile.specs.inside.Seen.{showing}
use Rattle.relation_profile.proofs.runnable.all_comparable.Given as goal

-- the members that are left decide
abbrev pub invariant-loop-a : goal.invariant-loop-a
invariant-loop-a l = all_comparable l.schemes l.cmp l.fn.set.0 (showing l.seen) ≡ all_comparable l.schemes l.cmp l.left.0 (showing l.seen)

abbrev pub decreases-loop-a : goal.decreases-loop-a
decreases-loop-a l = l.left.0
