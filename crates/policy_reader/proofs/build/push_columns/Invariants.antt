use Rattle.std.proofs.Common.{◌≡◌, ◌++◌, map, take}
use Rattle.policy_reader.specs.Outcome.{column_info}
use Rattle.policy_reader.proofs.build.push_columns.Given as goal

abbrev pub invariant-loop-column : goal.invariant-loop-column
invariant-loop-column l = l.infos ≡ l.initial.infos ++ map (column_info l.t.0) (take l.column-index l.columns)
