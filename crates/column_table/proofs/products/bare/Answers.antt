use Rattle.column_table.specs.Columns.{shown_columns}
use Rattle.column_table.proofs.BareRows.{none_at, none_filled}
use Rattle.column_table.proofs.PairRows.{bare_rows}
use Rattle.column_table.proofs.products.bare.Goals as goal

pub invariant_of-result-clause-filled : goal.invariant_of-result-clause-filled
invariant_of-result-clause-filled c = none_filled c.args.count (shown_columns c.no_columns.result) 64 c.no_columns.ensures

pub returns-clause-rows : goal.returns-clause-rows
returns-clause-rows c = bare_rows (shown_columns c.no_columns.result) c.args.count (none_at (shown_columns c.no_columns.result) 64 c.no_columns.ensures)

pub returns-clause-columns : goal.returns-clause-columns
returns-clause-columns c = none_at (shown_columns c.no_columns.result) 64 c.no_columns.ensures
