use Rattle.std.proofs.Common.{sym, ◌∙◌}
use Rattle.std.specs.Ordering.{is_lt}
use Rattle.sealed_column.specs.Cells.{order_at}
use Rattle.sealed_column.proofs.CellLaws.{above_order, place_keeps, place_takes}
use Rattle.sealed_column.proofs.pick.first_greatest.Goals.{then-is_below, else-is_below}
use Rattle.sealed_column.proofs.pick.first_greatest.Goals as goal

pub loop-at-preserved : goal.loop-at-preserved
loop-at-preserved g c =
    elim c.if-is_below.branch [
      | then-is_below w ↦
          place_takes (λ r s. is_lt (order_at g.C.Ord.cmp c.args.cells.now s c.args.cells.now r)) (above_order g.C.Ord.cmp g.met.C.Ord.total c.args.cells.now)
          c.args.rows.now c.loop-at.at c.loop-at.best c.if-is_below.best c.loop-at-test.true c.loop-at.invariant
          (sym c.is_below.ensures ∙ w.if-is_below.true) w.best-is
      | else-is_below w ↦
          place_keeps (λ r s. is_lt (order_at g.C.Ord.cmp c.args.cells.now s c.args.cells.now r)) (above_order g.C.Ord.cmp g.met.C.Ord.total c.args.cells.now)
          c.args.rows.now c.loop-at.at c.loop-at.best c.if-is_below.best c.loop-at-test.true c.loop-at.invariant
          (sym c.is_below.ensures ∙ w.if-is_below.false) w.best-is
    ]
