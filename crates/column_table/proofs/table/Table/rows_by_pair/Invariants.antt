-- The rows so far that are kept.
use Rattle.std.proofs.Common.{◌≡◌, filter}
use Rattle.std.specs.List.{range_with_len}
use Rattle.column_table.specs.Cells.{compares_pair}
use Rattle.column_table.specs.Columns.{cell_at, shown_columns}
use Rattle.row_algebra.specs.Tests.{both_pass}
use Rattle.column_table.proofs.table.Table.rows_by_pair.Given as goal

abbrev pub invariant-loop-row : goal.invariant-loop-row
invariant-loop-row l = l.kept.items ≡ filter (λ row. both_pass (compares_pair l.op) (cell_at (shown_columns l.self.columns) row l.a.0) (cell_at (shown_columns l.self.columns) row l.b.0)) (range_with_len 0 l.row)
