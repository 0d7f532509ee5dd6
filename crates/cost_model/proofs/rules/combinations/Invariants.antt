use Rattle.std.proofs.Common.{◌≡◌, ◌<◌, ◌^◌}
use Rattle.cost_model.specs.Estimates.{combinations, fit}
use Rattle.cost_model.proofs.CutLaws.{combinations_left}
use Rattle.cost_model.proofs.rules.combinations.Given as goal

-- what is reckoned, times what is left
abbrev pub invariant-loop-a : goal.invariant-loop-a
invariant-loop-a l = record {
  left : fit (combinations l.prices l.fn.by.0) ≡ combinations_left l.prices l.product l.left.0;
  fits : l.product < 2 ^ 64;
}

abbrev pub decreases-loop-a : goal.decreases-loop-a
decreases-loop-a l = l.left.0
