use Rattle.std.proofs.Common.{length, refl}
use Rattle.column_table.specs.Columns.{shown_columns}
use Rattle.column_table.proofs.ColumnLaws.{counted_taken, filled_taken, rows_taken}
use Rattle.column_table.proofs.table.Table.take_rows.Goals as goal

pub invariant_of-result-clause-filled : goal.invariant_of-result-clause-filled
invariant_of-result-clause-filled c =
    filled_taken (shown_columns c.args.self.now.columns) (shown_columns c.in_ok-columns.columns) c.args.self.now.rows (length c.args.rows.now)
    c.args.rows.now c.args.self.now.filled c.requires.within c.in_ok-columns.ensures refl

pub invariant_of-result-clause-counted : goal.invariant_of-result-clause-counted
invariant_of-result-clause-counted c =
    counted_taken c.args.self.now.counts c.in_ok-counts.counts c.args.self.now.rows (length c.args.rows.now) c.args.rows.now
    c.args.self.now.counted c.requires.within c.in_ok-counts.ensures refl

pub returns-clause-rows : goal.returns-clause-rows
returns-clause-rows c =
    rows_taken (shown_columns c.args.self.now.columns) (shown_columns c.in_ok-columns.columns) c.args.self.now.counts c.in_ok-counts.counts
    c.args.self.now.rows (length c.args.rows.now) c.args.rows.now c.args.self.now.filled c.args.self.now.counted c.requires.within
    c.in_ok-columns.ensures c.in_ok-counts.ensures refl
