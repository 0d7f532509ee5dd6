-- The records that a table's file is read as, by the rules of `csv`: its defaults, no trimming, one byte order mark
-- taken off. docs/FORMATS.md, "Table file", tells it in prose.
use Rattle.std.specs.Prelude.{ℕ, List}
use Rattle.csv.specs.Reading.{default_config, records_from, strip_bom}
use Rattle.csv.specs.declared.parser.State.TheVariants as st

-- a record: its fields, each a list of bytes
abbrev pub Fields : Type 0
Fields = List (List ℕ)

-- the records of a file, as many as are looked at: the header, 100,000 rows, and one more row that is refused
abbrev pub records_of : List ℕ → List Fields
records_of bytes = records_from default_config 100002 st.StartRecord (strip_bom bytes)
