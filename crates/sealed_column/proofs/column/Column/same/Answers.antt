use Rattle.std.proofs.Common.{◌∙◌, ap}
use Rattle.std.specs.Ordering.{is_eq}
use Rattle.sealed_column.proofs.CellLaws.{order_agrees}
use Rattle.sealed_column.proofs.column.Column.same.Goals as goal

pub returns-clause-values : goal.returns-clause-values
returns-clause-values g c =
    λ key values more first second.
    c.is_eq.ensures
    ∙ ap is_eq (rw (c.cells.ensures, c.cells-2.ensures) at c.order_between.ensures)
    ∙ order_agrees g.St.Cell.Ord.cmp is_eq (g.St.CellState.opens key) c.args.self.now.ty (g.met.St.EqCells.agrees key)
    c.args.self.now.cells values c.args.other.now.cells more first second c.args.row c.args.other_row
