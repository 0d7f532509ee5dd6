-- The pairs are those of the rows so far.
use Rattle.std.proofs.Common.{◌≡◌}
use Rattle.column_table.specs.inside.Pairs.{all_pairs}
use Rattle.column_table.proofs.pairs.all_pairs.Given as goal

abbrev pub invariant-loop-row : goal.invariant-loop-row
invariant-loop-row l = l.made.items ≡ all_pairs l.row l.others
