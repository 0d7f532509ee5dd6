use Rattle.std.proofs.Common.{◌≡◌, map, take}
use Rattle.policy_reader.specs.declared.raw.RawTable.{RawTable}
use Rattle.policy_reader.specs.Outcome.{subject_id}
use Rattle.policy_reader.proofs.build.owners.Given as goal

abbrev pub invariant-loop-table : goal.invariant-loop-table
invariant-loop-table l = l.owners ≡ map (λ (table : RawTable). subject_id l.subjects table.owner) (take l.table-index l.tables)
