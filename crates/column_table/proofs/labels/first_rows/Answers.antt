use Rattle.std.proofs.Common.{◌∙◌, ap, map}
use Rattle.std.proofs.lemmas.List.{take_all}
use Rattle.column_table.specs.Groups.{first_in}
use Rattle.column_table.proofs.LabelRows.{first_labels, first_rows_more}
use Rattle.sealed_column.specs.Rows.{rows_at}
use Rattle.column_table.proofs.labels.first_rows.Goals as goal

pub loop-cell-preserved : goal.loop-cell-preserved
loop-cell-preserved g c =
    first_rows_more g.C.Ord.cmp g.met.C.Ord.total c.args.cells.now c.loop-cell.cell-index c.cell-item.result c.loop-cell.rows.items
    c.push.new.self.items c.rows_of.result.now c.first_of.result c.loop-cell-test.true c.cell-item.is c.loop-cell.invariant
    (c.rows_of.ensures c.args.cells.now c.in_ok-found.ensures) c.first_of.ensures c.in_ok-push.ensures.items

pub returns : goal.returns
returns g c =
    first_labels g.C.Ord.cmp g.met.C.Ord.total c.args.cells.now c.loop-cell.rows.items
    (c.loop-cell.invariant
    ∙ ap (map (λ e. first_in (rows_at g.C.Ord.cmp e 0 c.args.cells.now))) (take_all c.loop-cell.cell-index c.args.cells.now c.loop-cell-test.false))
