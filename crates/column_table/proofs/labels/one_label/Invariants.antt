-- There are as many labels as rows so far.
use Rattle.std.proofs.Common.{◌≡◌, replicate}
use Rattle.column_table.proofs.labels.one_label.Given as goal

abbrev pub invariant-loop-row : goal.invariant-loop-row
invariant-loop-row l = l.labels.items ≡ replicate l._row 0
