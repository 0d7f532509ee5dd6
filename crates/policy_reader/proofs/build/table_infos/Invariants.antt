use Rattle.std.proofs.Common.{◌≡◌, ◌++◌, drop}
use Rattle.policy_reader.specs.Grants.{first_id}
use Rattle.policy_reader.specs.Outcome.{tables_from}
use Rattle.policy_reader.proofs.build.table_infos.Given as goal

abbrev pub invariant-loop-table : goal.invariant-loop-table
invariant-loop-table l = record {
  first : l.first ≡ first_id l.tables l.table-index;
  made : tables_from l.subjects 0 l.tables ≡ l.infos ++ tables_from l.subjects l.first (drop l.table-index l.tables);
}
