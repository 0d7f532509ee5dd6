-- The labels tell, with the attributes that are left, which rows are the same.
use Rattle.column_table.specs.inside.Labels.{AreLabelsSoFar}
use Rattle.column_table.proofs.labels.row_labels.Given as goal

abbrev pub invariant-loop-a : goal.invariant-loop-a
invariant-loop-a l = AreLabelsSoFar l.table l.fn.set.0 l.left.0 l.labels.items

abbrev pub decreases-loop-a : goal.decreases-loop-a
decreases-loop-a l = l.left.0
