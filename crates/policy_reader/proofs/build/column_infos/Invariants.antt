use Rattle.std.proofs.Common.{◌≡◌, ◌++◌, drop}
use Rattle.policy_reader.specs.Outcome.{columns_from}
use Rattle.policy_reader.proofs.build.column_infos.Given as goal

abbrev pub invariant-loop-t : goal.invariant-loop-t
invariant-loop-t l = columns_from 0 l.tables ≡ l.infos ++ columns_from l.t (drop l.t l.tables)
