use Rattle.std.proofs.Common.{◌≡◌, ◌-◌, ◌^◌, min, take}
use Rattle.policy_reader.specs.Faults.{column_count}
use Rattle.policy_reader.proofs.check.column_count.Given as goal

abbrev pub invariant-loop-table : goal.invariant-loop-table
invariant-loop-table l = l.count ≡ min (column_count (take l.table-index l.tables)) (2 ^ 64 - 1)
