use Rattle.std.proofs.Common.{◌≡◌, map}
use Rattle.std.specs.List.{range_with_len}
use Rattle.plan_runner.specs.inside.Shown.{plain_items, row_of}
use Rattle.plan_runner.proofs.rows.rows_of.Given as goal

abbrev pub invariant-loop-row : goal.invariant-loop-row
invariant-loop-row l = l.rows.items ≡ map (λ row. plain_items l.items (row_of l.held row)) (range_with_len 0 l.row)
