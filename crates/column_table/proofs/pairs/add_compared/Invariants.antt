-- The pairs are those at the start, and then the row with those of the others so far whose cells compare so.
use Rattle.std.proofs.Common.{◌≡◌, ◌++◌, take}
use Rattle.column_table.specs.inside.Pairs.{rows_where}
use Rattle.row_algebra.specs.Tests.{holds}
use Rattle.sealed_column.specs.Rows.{paired}
use Rattle.column_table.proofs.pairs.add_compared.Given as goal

abbrev pub invariant-loop-other : goal.invariant-loop-other
invariant-loop-other g l =
    l.made.items ≡ l.fn.made.items ++ paired l.row (rows_where (λ d. holds l.op (g.C.Ord.cmp l.cell d)) 0 (take l.other l.others))
