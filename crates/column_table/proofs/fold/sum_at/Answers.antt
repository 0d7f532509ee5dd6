use Rattle.std.proofs.Common.{ap, ◌∙◌}
use Rattle.std.proofs.lemmas.Int.{to_z-of_z}
use Rattle.std.specs.Int.{w128}
use Rattle.column_table.specs.Columns.{shown}
use Rattle.column_table.proofs.FoldRows.{small_cells, sum_of_cells}
use Rattle.sealed_column.specs.declared.column.AnyColumn.{AnyColumn}
use Rattle.column_table.proofs.fold.sum_at.Goals as goal

pub sum-requires-clause-ints : goal.sum-requires-clause-ints
sum-requires-clause-ints c =
    small_cells (shown c.args.column.now).cells c.in-Clear.values.cells (ap (λ (column : AnyColumn). (shown column).cells) c.in-Clear.is)
    c.requires.runs.small

pub returns-clause-sum : goal.returns-clause-sum
returns-clause-sum c =
    sum_of_cells c.in-Clear.values.cells (shown c.args.column.now).cells c.args.group.now _
    (ap (λ (column : AnyColumn). (shown column).cells) c.in-Clear.is) c.requires.runs.small c.requires.group (to_z-of_z w128 c.sum.result (record { sfits = c.sum.type_inv }) ∙ c.sum.ensures)
