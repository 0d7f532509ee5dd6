use Rattle.column_table.specs.Columns.{shown_columns}
use Rattle.column_table.proofs.BesideRows.{columns_or, counted_beside, filled_beside, rows_beside}
use Rattle.column_table.proofs.beside.beside.Goals as goal

pub invariant_of-result-clause-filled : goal.invariant_of-result-clause-filled
invariant_of-result-clause-filled c =
    filled_beside c.args.left.rows c.args.right.rows (shown_columns c.args.left.columns) (shown_columns c.args.right.columns)
    (shown_columns c.columns_beside.result) c.requires c.args.left.filled c.args.right.filled
    (columns_or c.args.left.columns c.args.right.columns c.columns_beside.result c.columns_beside.ensures)

pub invariant_of-result-clause-counted : goal.invariant_of-result-clause-counted
invariant_of-result-clause-counted c =
    rw c.or.ensures
    (counted_beside c.args.left.rows c.args.right.rows c.args.left.counts c.args.right.counts c.requires c.args.left.counted c.args.right.counted)

pub returns-clause-rows : goal.returns-clause-rows
returns-clause-rows c =
    rows_beside c.args.left.rows (shown_columns c.args.left.columns) (shown_columns c.args.right.columns)
    (shown_columns c.columns_beside.result) c.args.left.counts c.args.right.counts c.or.result c.args.left.filled c.args.left.counted
    (columns_or c.args.left.columns c.args.right.columns c.columns_beside.result c.columns_beside.ensures) c.or.ensures c.args.right.rows c.requires

pub returns-clause-columns : goal.returns-clause-columns
returns-clause-columns c = columns_or c.args.left.columns c.args.right.columns c.columns_beside.result c.columns_beside.ensures
