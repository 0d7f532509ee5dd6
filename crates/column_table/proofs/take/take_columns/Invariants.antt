-- The columns of the places so far are at the rows, and the later ones are not there yet.
use Rattle.std.proofs.Common.{◌≡◌, None, option_map}
use Rattle.base_laws.proofs.FillLaws.{filled}
use Rattle.column_table.specs.Columns.{at_rows, column_at, shown_columns}
use Rattle.column_table.proofs.take.take_columns.Given as goal

abbrev pub invariant-loop-a : goal.invariant-loop-a
invariant-loop-a l = shown_columns l.taken ≡ filled (λ a. option_map (at_rows l.rows) (column_at (shown_columns l.columns) a)) None l.a
