-- The pairs are those at the start, and then the row with each of the rows of the right so far.
use Rattle.std.proofs.Common.{◌≡◌, ◌++◌, take}
use Rattle.sealed_column.specs.Rows.{paired}
use Rattle.sealed_column.proofs.rows.add_pairs.Given as goal

abbrev pub invariant-loop-other : goal.invariant-loop-other
invariant-loop-other l = l.pairs.items ≡ l.fn.pairs.items ++ paired l.row (take l.other-index l.others)
