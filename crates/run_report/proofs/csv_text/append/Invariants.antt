use Rattle.std.proofs.Common.{◌∷◌, ◌++◌, map, take}
use Rattle.run_report.specs.Answer.{shown, csv_text}
use Rattle.run_report.specs.CsvWriting.{IsWriting}
use Rattle.run_report.proofs.csv_text.append.Given as goal

abbrev pub invariant-rows : goal.invariant-rows
invariant-rows l = IsWriting l.writer (l.fn.text.items ++ csv_text (map (λ n. n.now) l.names ∷ map (map shown) (take l.row-index l.rows)))
