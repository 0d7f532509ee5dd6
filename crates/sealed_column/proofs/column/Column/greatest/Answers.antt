use Rattle.sealed_column.proofs.CellLaws.{greatest_agrees}
use Rattle.sealed_column.proofs.column.Column.greatest.Goals as goal

pub returns-clause-values : goal.returns-clause-values
returns-clause-values g c =
    λ key values opened.
    greatest_agrees g.St.Cell.Ord.cmp (g.St.CellState.opens key) c.args.self.now.ty (g.met.St.OrdCells.orders key)
    c.args.self.now.cells values opened c.args.rows.now c.first_greatest.result (rw c.cells.ensures at c.first_greatest.ensures)
