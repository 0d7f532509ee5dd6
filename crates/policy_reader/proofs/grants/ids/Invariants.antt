use Rattle.std.proofs.Common.{◌≡◌, ◌+◌, ◌^◌}
use Rattle.base_laws.specs.Folds.{union_to}
use Rattle.policy_reader.proofs.grants.ids.Given as goal

abbrev pub invariant-loop-place : goal.invariant-loop-place
invariant-loop-place l = l.set.0 ≡ union_to (λ place. 2 ^ (l.first + place)) l.place
