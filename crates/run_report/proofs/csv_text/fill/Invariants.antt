use Rattle.std.proofs.Common.{◌≡◌, [], map, take}
use Rattle.csv.specs.Records.{fields_of, partial_of}
use Rattle.run_report.specs.Answer.{shown}
use Rattle.run_report.proofs.csv_text.fill.Given as goal

abbrev pub invariant-cells : goal.invariant-cells
invariant-cells l = (fields_of l.fields ≡ map shown (take l.value-index l.row)) × (partial_of l.fields ≡ [])
