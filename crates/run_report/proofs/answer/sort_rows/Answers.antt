use Rattle.run_report.proofs.Rows.{rows_sorted}
use Rattle.run_report.proofs.answer.sort_rows.Goals as goal

pub returns : goal.returns
returns c = rows_sorted _ _ c.in_ok-sort.ensures.permutation c.in_ok-sort.ensures.sorted
