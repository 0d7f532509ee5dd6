use Rattle.std.proofs.Common.{◌≡◌, ◌-◌, length}
use Rattle.base_laws.specs.Firsts.{first_at}
use Rattle.policy_reader.specs.Faults.{owner_fault}
use Rattle.policy_reader.proofs.check.check_owners.Given as goal

abbrev pub invariant-loop-at : goal.invariant-loop-at
invariant-loop-at l =
    first_at (owner_fault l.subjects l.tables) 0 (length l.tables) ≡ first_at (owner_fault l.subjects l.tables) l.at (length l.tables - l.at)
