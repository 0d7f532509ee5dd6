-- The places so far have the columns of the groups.
use Rattle.std.proofs.Common.{◌≡◌, ℕ, ◌<◌, length}
use Rattle.column_table.specs.Columns.{column_at, shown_columns}
use Rattle.column_table.specs.Groups.{IsPlaceOf}
use Rattle.column_table.proofs.grouping.group_columns.Given as goal

abbrev pub invariant-loop-a : goal.invariant-loop-a
invariant-loop-a l = record {
  long : length l.made ≡ 64;
  done : (k : ℕ) → k < l.a → IsPlaceOf l.by.0 l.aggs l.groups k (column_at (shown_columns l.columns) k) (column_at (shown_columns l.made) k);
}
