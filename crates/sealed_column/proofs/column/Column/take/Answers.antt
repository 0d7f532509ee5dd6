use Rattle.std.proofs.Common.{◌≡◌, ◌∙◌, ap}
use Rattle.std.specs.Bool.{IsTrue}
use Rattle.sealed_column.specs.Cells.{OpensAt, picked}
use Rattle.sealed_column.proofs.CellLaws.{picked_all, picked_together}
use Rattle.sealed_column.proofs.column.Column.take.Goals as goal

pub invariant_of-result : goal.invariant_of-result
invariant_of-result g c =
    let cells : c.of.result ≡ picked c.args.self.now.cells c.args.rows.now =
    c.of.ensures ∙ c.in_ok-cells.ensures ∙ ap (λ xs. picked xs c.args.rows.now) c.as_slice.ensures in
    record {
      sized = rw cells (picked_all (λ cell. IsTrue (g.St.CellState.fits c.args.self.now.ty cell)) c.args.self.now.cells c.args.rows.now c.args.self.now.sized);
    }

pub returns-clause-values : goal.returns-clause-values
returns-clause-values g c =
    let cells : c.of.result ≡ picked c.args.self.now.cells c.args.rows.now =
    c.of.ensures ∙ c.in_ok-cells.ensures ∙ ap (λ xs. picked xs c.args.rows.now) c.as_slice.ensures in
    λ key values opened.
    rw cells (picked_together (OpensAt (g.St.CellState.opens key) c.args.self.now.ty) c.args.self.now.cells values c.args.rows.now opened)
