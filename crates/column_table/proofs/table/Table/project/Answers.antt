use Rattle.column_table.specs.Columns.{shown_columns}
use Rattle.column_table.proofs.CutLaws.{filled_kept, rows_cut}
use Rattle.column_table.proofs.table.Table.project.Goals as goal

pub invariant_of-result-clause-filled : goal.invariant_of-result-clause-filled
invariant_of-result-clause-filled c =
    filled_kept (shown_columns c.args.self.columns) (shown_columns c.keep_columns.new.columns) c.args.kept.0 c.args.self.rows c.args.self.filled
    c.keep_columns.ensures

pub returns-clause-rows : goal.returns-clause-rows
returns-clause-rows c =
    rows_cut (shown_columns c.args.self.columns) (shown_columns c.keep_columns.new.columns) c.args.self.counts c.args.kept.0 c.args.self.rows
    c.keep_columns.ensures
