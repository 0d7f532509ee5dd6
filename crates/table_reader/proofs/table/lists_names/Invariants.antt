use Rattle.std.proofs.Common.{◌≡◌, ◌≤◌, drop, length}
use Rattle.csv.specs.Records.{fields_of}
use Rattle.mq_base.specs.Schema.{columns_of}
use Rattle.table_reader.specs.Faults.{is_header, names_of}
use Rattle.table_reader.proofs.HeaderLaws.{names_from}
use Rattle.table_reader.proofs.table.lists_names.Given as goal

-- the names and the fields that are left to compare decide
abbrev pub invariant-loop-column : goal.invariant-loop-column
invariant-loop-column l =
    (l.at ≤ length (fields_of l.current))
    × (is_header (names_of (columns_of l.schema l.t.0)) (fields_of l.current)
    ≡ is_header (names_from l.schema.attrs l.t.0 l.column-index) (drop l.at (fields_of l.current)))
