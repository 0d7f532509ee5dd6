-- The map is the index of the cells so far.
use Rattle.std.proofs.Common.{take}
use Rattle.sealed_column.specs.Rows.{IsIndex}
use Rattle.sealed_column.proofs.rows.index.Given as goal

abbrev pub invariant-loop-row : goal.invariant-loop-row
invariant-loop-row g l = IsIndex g.C.Ord.cmp l.found (take l.row l.cells)
