use Rattle.std.proofs.Common.{◌≡◌, ◌+◌}
use Rattle.cost_model.specs.Costs.{basis_of, cells}
use Rattle.cost_model.proofs.costs.cells.Given as goal

-- what is reckoned, and what is left
abbrev pub invariant-loop-a : goal.invariant-loop-a
invariant-loop-a l = cells (basis_of l.base) l.fn.set.0 l.view ≡ l.total + cells (basis_of l.base) l.left.0 l.view

abbrev pub decreases-loop-a : goal.decreases-loop-a
decreases-loop-a l = l.left.0
