-- The place so far is the first of the least cell among those of the rows so far.
use Rattle.std.specs.List.{IsFirstBest}
use Rattle.std.specs.Ordering.{is_lt}
use Rattle.sealed_column.specs.Cells.{order_at}
use Rattle.sealed_column.proofs.pick.first_least.Given as goal

abbrev pub invariant-loop-at : goal.invariant-loop-at
invariant-loop-at g l = IsFirstBest (λ r s. is_lt (order_at g.C.Ord.cmp l.cells r l.cells s)) l.rows l.at l.best
