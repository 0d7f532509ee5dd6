use Rattle.std.proofs.Common.{◌≡◌, ◌+◌, ◌-◌, length}
use Rattle.table_reader.specs.inside.Growing.{with_rows}
use Rattle.table_reader.specs.Faults.{rows_fault}
use Rattle.table_reader.specs.inside.Reading.{IsReading, records_left}
use Rattle.table_reader.proofs.columns.read_rows.Given as goal

-- what was left at first comes to what is left now, after the rows so far
abbrev pub invariant-loop-row : goal.invariant-loop-row
invariant-loop-row l =
    IsReading l.reader
    × (rows_fault l.types 1 (records_left 100001 l.fn.reader) ≡ rows_fault l.types (l.row + 1) (records_left (100001 - l.row) l.reader))
    × (length (records_left 100001 l.fn.reader) ≡ l.row + length (records_left (100001 - l.row) l.reader))
    × (with_rows l.types 0 l.fn.columns (records_left 100001 l.fn.reader) ≡ with_rows l.types 0 l.columns (records_left (100001 - l.row) l.reader))
