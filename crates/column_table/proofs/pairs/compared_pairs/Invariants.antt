-- The pairs are those of the rows of the left so far.
use Rattle.std.proofs.Common.{◌≡◌, take}
use Rattle.column_table.specs.inside.Pairs.{pairs_by}
use Rattle.row_algebra.specs.Tests.{holds}
use Rattle.column_table.proofs.pairs.compared_pairs.Given as goal

abbrev pub invariant-loop-row : goal.invariant-loop-row
invariant-loop-row g l = l.made.items ≡ pairs_by (λ c d. holds l.op (g.C.Ord.cmp c d)) 0 (take l.row l.left) l.right
