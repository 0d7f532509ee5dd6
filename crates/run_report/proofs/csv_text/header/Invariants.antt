use Rattle.std.proofs.Common.{◌≡◌, [], map, take}
use Rattle.csv.specs.Records.{fields_of, partial_of}
use Rattle.run_report.proofs.csv_text.header.Given as goal

abbrev pub invariant-names : goal.invariant-names
invariant-names l =
    (fields_of l.record ≡ map (λ n. n.now) (take l.name-index l.names)) × (partial_of l.record ≡ [])
