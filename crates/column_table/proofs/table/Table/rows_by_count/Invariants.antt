-- The rows so far that are kept.
use Rattle.std.proofs.Common.{◌≡◌, filter, pos}
use Rattle.std.specs.List.{range_with_len}
use Rattle.std.specs.Ordering.{int_cmp}
use Rattle.column_table.specs.Columns.{count_at}
use Rattle.row_algebra.specs.Tests.{holds, passes}
use Rattle.column_table.proofs.table.Table.rows_by_count.Given as goal

abbrev pub invariant-loop-row : goal.invariant-loop-row
invariant-loop-row l = l.kept.items ≡ filter (λ row. passes (λ n. holds l.op (int_cmp (pos n) l.number)) (count_at l.self.counts row)) (range_with_len 0 l.row)
