use Rattle.std.proofs.Common.{None, Some}
use Rattle.mq_base.specs.declared.table.Scheme.TheVariants.{Rnd, Det, Ope}
use Rattle.column_table.specs.Cells.{Plain, Sealed}
use Rattle.column_table.proofs.ColumnLaws.{shown_taken}
use Rattle.column_table.proofs.take.take_column.Goals as goal

pub returns-in_ok-take-in-Clear : goal.returns-in_ok-take-in-Clear
returns-in_ok-take-in-Clear c =
    rw c.in-Clear.is
    (shown_taken Plain None c.in-Clear.cells.ty c.in_ok-take-in-Clear.field-0.ty c.in-Clear.cells.cells c.in_ok-take-in-Clear.field-0.cells
    c.args.rows.now c.in_ok-take-in-Clear.ensures.typed c.in_ok-take-in-Clear.ensures.cells)

pub returns-in_ok-take-in-Rnd : goal.returns-in_ok-take-in-Rnd
returns-in_ok-take-in-Rnd c =
    rw c.in-Rnd.is
    (shown_taken Sealed (Some Rnd) c.in-Rnd.cells.ty c.in_ok-take-in-Rnd.field-0.ty c.in-Rnd.cells.cells c.in_ok-take-in-Rnd.field-0.cells
    c.args.rows.now c.in_ok-take-in-Rnd.ensures.typed c.in_ok-take-in-Rnd.ensures.cells)

pub returns-in_ok-take-in-Det : goal.returns-in_ok-take-in-Det
returns-in_ok-take-in-Det c =
    rw c.in-Det.is
    (shown_taken Sealed (Some Det) c.in-Det.cells.ty c.in_ok-take-in-Det.field-0.ty c.in-Det.cells.cells c.in_ok-take-in-Det.field-0.cells
    c.args.rows.now c.in_ok-take-in-Det.ensures.typed c.in_ok-take-in-Det.ensures.cells)

pub returns-in_ok-take-in-Ope : goal.returns-in_ok-take-in-Ope
returns-in_ok-take-in-Ope c =
    rw c.in-Ope.is
    (shown_taken Sealed (Some Ope) c.in-Ope.cells.ty c.in_ok-take-in-Ope.field-0.ty c.in-Ope.cells.cells c.in_ok-take-in-Ope.field-0.cells
    c.args.rows.now c.in_ok-take-in-Ope.ensures.typed c.in_ok-take-in-Ope.ensures.cells)
