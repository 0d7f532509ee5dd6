use Rattle.std.proofs.Common.{◌≡◌, ◌-◌, ◌∷◌, ◌++◌, [], length, take, drop}
use Rattle.csv.specs.Records.{fields_of}
use Rattle.base_laws.specs.Firsts.{first_at}
use Rattle.table_reader.specs.inside.Growing.{with_rows}
use Rattle.table_reader.specs.Faults.{cell_fault}
use Rattle.table_reader.proofs.columns.push_values.Given as goal

abbrev pub invariant-loop-col : goal.invariant-loop-col
invariant-loop-col l =
    (first_at (cell_fault l.types l.row (fields_of l.current)) 0 (length l.types)
    ≡ first_at (cell_fault l.types l.row (fields_of l.current)) l.col (length l.types - l.col))
    × (l.columns
    ≡ take l.col (with_rows l.types 0 l.fn.columns (fields_of l.current ∷ [])) ++ drop l.col l.fn.columns)
