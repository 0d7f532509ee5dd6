use Rattle.std.proofs.Common.{◌∙◌}
use Rattle.sealed_column.proofs.CellLaws.{order_agrees}
use Rattle.sealed_column.proofs.column.Column.compare.Goals as goal

pub returns-clause-values : goal.returns-clause-values
returns-clause-values g c =
    λ key values more first second.
    rw (c.cells.ensures, c.cells-2.ensures) at c.order_between.ensures
    ∙ order_agrees g.St.Cell.Ord.cmp (λ order. order) (g.St.CellState.opens key) c.args.self.now.ty (g.met.St.OrdCells.orders key)
    c.args.self.now.cells values c.args.other.now.cells more first second c.args.row c.args.other_row
