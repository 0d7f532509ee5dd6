-- The copies are the cells at the rows so far.
use Rattle.std.proofs.Common.{◌≡◌, take}
use Rattle.sealed_column.specs.Cells.{picked}
use Rattle.sealed_column.proofs.pick.copy_picked.Given as goal

abbrev pub invariant-loop-row : goal.invariant-loop-row
invariant-loop-row g l = l.taken.items ≡ picked l.cells (take l.row-index l.rows)
