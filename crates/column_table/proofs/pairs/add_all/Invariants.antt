-- The pairs are those at the start, and then the row with each of the others so far.
use Rattle.std.proofs.Common.{◌≡◌, ◌++◌}
use Rattle.std.specs.List.{range_with_len}
use Rattle.sealed_column.specs.Rows.{paired}
use Rattle.column_table.proofs.pairs.add_all.Given as goal

abbrev pub invariant-loop-other : goal.invariant-loop-other
invariant-loop-other l = l.made.items ≡ l.fn.made.items ++ paired l.row (range_with_len 0 l.other)
