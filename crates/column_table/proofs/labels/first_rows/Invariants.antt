-- The rows are the first ones of the cells so far.
use Rattle.std.proofs.Common.{◌≡◌, map, take}
use Rattle.column_table.specs.Groups.{first_in}
use Rattle.sealed_column.specs.Rows.{rows_at}
use Rattle.column_table.proofs.labels.first_rows.Given as goal

abbrev pub invariant-loop-cell : goal.invariant-loop-cell
invariant-loop-cell g l = l.rows.items ≡ map (λ c. first_in (rows_at g.C.Ord.cmp c 0 l.cells)) (take l.cell-index l.cells)
