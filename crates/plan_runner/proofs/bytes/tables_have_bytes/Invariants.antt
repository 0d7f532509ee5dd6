use Rattle.std.proofs.Common.{All, take}
use Rattle.plan_runner.specs.inside.Given.{TableHasBytes}
use Rattle.plan_runner.proofs.bytes.tables_have_bytes.Given as goal

abbrev pub invariant-loop-table : goal.invariant-loop-table
invariant-loop-table l = All TableHasBytes (take l.table-index l.tables)
