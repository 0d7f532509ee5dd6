use Rattle.std.proofs.Common.{◌≡◌, take}
use Rattle.plan_runner.specs.inside.Shown.{plain_items, row_of}
use Rattle.plan_runner.proofs.rows.row_of.Given as goal

abbrev pub invariant-loop-item : goal.invariant-loop-item
invariant-loop-item l = l.values ≡ plain_items (take l.item-index l.items) (row_of l.held l.row)
