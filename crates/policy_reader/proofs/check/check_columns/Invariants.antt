use Rattle.std.proofs.Common.{◌≡◌, ◌-◌, length}
use Rattle.base_laws.specs.Firsts.{first_at}
use Rattle.policy_reader.specs.Faults.{column_fault}
use Rattle.policy_reader.proofs.check.check_columns.Given as goal

abbrev pub invariant-loop-place : goal.invariant-loop-place
invariant-loop-place l =
    first_at (column_fault l.earlier l.columns l.at) 0 (length l.columns) ≡ first_at (column_fault l.earlier l.columns l.at) l.place (length l.columns - l.place)
