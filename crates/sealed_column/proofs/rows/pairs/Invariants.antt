-- The pairs are those of the rows of the left so far.
use Rattle.std.proofs.Common.{◌≡◌, take}
use Rattle.sealed_column.specs.Rows.{pairs_from}
use Rattle.sealed_column.proofs.rows.pairs.Given as goal

abbrev pub invariant-loop-row : goal.invariant-loop-row
invariant-loop-row g l = l.pairs.items ≡ pairs_from g.C.Ord.cmp 0 (take l.row l.left) l.right
