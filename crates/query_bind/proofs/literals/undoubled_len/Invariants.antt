use Rattle.std.proofs.Common.{◌≡◌, ◌+◌, ◌-◌, ◌≤◌, drop, length}
use Rattle.query_bind.specs.Bound.{undoubled}
use Rattle.query_bind.proofs.literals.undoubled_len.Given as goal

abbrev pub invariant-loop-at : goal.invariant-loop-at
invariant-loop-at l = record {
  within : l.at ≤ length l.inside + 1;
  few : l.count ≤ l.at;
  counted : length (undoubled l.inside) ≡ l.count + length (undoubled (drop l.at l.inside));
}

abbrev pub decreases-loop-at : goal.decreases-loop-at
decreases-loop-at l = length l.inside - l.at
