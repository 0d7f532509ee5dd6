use Rattle.std.proofs.Common.{◌≡◌, ◌-◌, length}
use Rattle.base_laws.specs.Firsts.{first_at}
use Rattle.policy_reader.specs.Faults.{table_names_fault}
use Rattle.policy_reader.proofs.check.check_tables.Given as goal

abbrev pub invariant-loop-at : goal.invariant-loop-at
invariant-loop-at l =
    first_at (table_names_fault l.tables) 0 (length l.tables) ≡ first_at (table_names_fault l.tables) l.at (length l.tables - l.at)
