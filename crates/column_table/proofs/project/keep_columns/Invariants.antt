-- The columns before this place that are not kept are gone.
use Rattle.std.proofs.Common.{◌≡◌, ℕ}
use Rattle.column_table.specs.Columns.{column_at, shown_columns}
use Rattle.column_table.proofs.CutLaws.{kept_to}
use Rattle.column_table.proofs.project.keep_columns.Given as goal

abbrev pub invariant-loop-a : goal.invariant-loop-a
invariant-loop-a l = (a : ℕ) → column_at (shown_columns l.columns) a ≡ kept_to (shown_columns l.initial.columns) l.kept.0 l.a a
