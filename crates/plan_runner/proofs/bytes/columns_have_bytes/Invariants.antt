use Rattle.std.proofs.Common.{All, take}
use Rattle.plan_runner.specs.inside.Given.{ColumnHasBytes}
use Rattle.plan_runner.proofs.bytes.columns_have_bytes.Given as goal

abbrev pub invariant-loop-column : goal.invariant-loop-column
invariant-loop-column l = All ColumnHasBytes (take l.column-index l.columns)
