use Rattle.std.proofs.Common.{◌≡◌, ℕ, ◌<◌, length, get_or}
use Rattle.policy_reader.specs.Grants.{nothing}
use Rattle.policy_reader.specs.inside.Anyone.{any_grant}
use Rattle.policy_reader.proofs.grants.any_grants.Given as goal

abbrev pub invariant-loop-t : goal.invariant-loop-t
invariant-loop-t l = record {
  filled : length l.grants.items ≡ l.t;
  each : (k : ℕ) → k < l.t → get_or l.grants.items k nothing ≡ any_grant l.tables l.rules k;
}
