use Rattle.std.proofs.Common.{◌≡◌, ◌-◌, length}
use Rattle.base_laws.specs.Firsts.{first_at}
use Rattle.policy_reader.specs.Rules.{sealed_fault}
use Rattle.policy_reader.proofs.rules.check_sealed.Given as goal

abbrev pub invariant-loop-place : goal.invariant-loop-place
invariant-loop-place l =
    first_at (sealed_fault l.columns l.plain l.sealed l.at) 0 (length l.sealed) ≡ first_at (sealed_fault l.columns l.plain l.sealed l.at) l.place (length l.sealed - l.place)
