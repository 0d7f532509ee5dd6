-- The total is the sum of the cells at the rows so far, of which each adds less than 2^63.
use Rattle.std.proofs.Common.{◌≡◌, ◌*◌, take, pos, neg_ℤ, ◌≤ℤ◌}
use Rattle.sealed_column.specs.Cells.{picked, sum_of}
use Rattle.sealed_column.proofs.total.sum_at.Given as goal

abbrev pub invariant-loop-row : goal.invariant-loop-row
invariant-loop-row l =
    (l.total ≡ sum_of (picked l.cells (take l.row-index l.rows)))
    × (neg_ℤ (pos (9223372036854775808 * l.row-index)) ≤ℤ l.total)
    × (l.total ≤ℤ pos (9223372036854775808 * l.row-index))
