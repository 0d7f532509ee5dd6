use Rattle.std.proofs.Common.{ap, refl}
use Rattle.std.proofs.lemmas.Cmp.{nat_list_cmp_total}
use Rattle.std.specs.Cmp.Lexicographic.{slice_cmp}
use Rattle.std.specs.Ordering.{nat_cmp}
use Rattle.mq_base.specs.Value.{value_cmp}
use Rattle.mq_base.specs.ValueLaws.{value_total}
use Rattle.column_table.specs.Cells.{Plain, Sealed}
use Rattle.column_table.specs.Columns.{shown}
use Rattle.column_table.proofs.FoldRows.{greatest_of}
use Rattle.sealed_column.specs.declared.column.AnyColumn.{AnyColumn}
use Rattle.column_table.proofs.fold.greatest_row.Goals as goal

pub returns-in-Clear-clause-cell : goal.returns-in-Clear-clause-cell
returns-in-Clear-clause-cell c =
    greatest_of value_cmp value_total Plain (λ v w. refl) c.in-Clear.values.cells (shown c.args.column.now).cells c.args.group.now c.greatest.result
    (ap (λ (column : AnyColumn). (shown column).cells) c.in-Clear.is) c.requires.group c.greatest.ensures.cells

pub returns-in-Ope-clause-cell : goal.returns-in-Ope-clause-cell
returns-in-Ope-clause-cell c =
    greatest_of (slice_cmp nat_cmp) nat_list_cmp_total Sealed (λ s t. refl) c.in-Ope.cells.cells (shown c.args.column.now).cells c.args.group.now
    c.greatest-in-Ope.result (ap (λ (column : AnyColumn). (shown column).cells) c.in-Ope.is) c.requires.group c.greatest-in-Ope.ensures.cells
