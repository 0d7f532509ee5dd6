use Rattle.std.proofs.Common.{◌≡◌}
use Rattle.base_laws.specs.Folds.{union_to}
use Rattle.policy_reader.specs.Grants.{named_at}
use Rattle.policy_reader.proofs.grants.listed.Given as goal

abbrev pub invariant-loop-place : goal.invariant-loop-place
invariant-loop-place l = l.set.0 ≡ union_to (named_at l.first l.columns l.names) l.place
