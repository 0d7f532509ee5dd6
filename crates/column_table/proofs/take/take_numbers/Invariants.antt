-- The copies are the numbers at the rows so far.
use Rattle.std.proofs.Common.{◌≡◌, take}
use Rattle.sealed_column.specs.Cells.{picked}
use Rattle.column_table.proofs.take.take_numbers.Given as goal

abbrev pub invariant-loop-row : goal.invariant-loop-row
invariant-loop-row l = l.taken.items ≡ picked l.numbers (take l.row-index l.rows)
