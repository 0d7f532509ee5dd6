-- What a reader of records has left, read by read.
use Rattle.std.specs.Prelude.{◌≡◌, ℕ, Bool, true, false, List, [], ◌∷◌, Option, Some, None, IsSome}
use Rattle.std.specs.Borrow.{Bor}
use Rattle.csv.specs.Reading.{Ready, default_config, reader_config, reader_state, reader_trim, records_from, source_of}
use Rattle.csv.specs.declared.parser.State.{State}
use Rattle.csv.specs.declared.reader.Reader.{Reader}
use Rattle.csv.specs.declared.reader.Trim.TheVariants as trim
use Rattle.table_reader.specs.Records.{Fields}

-- at most n of the records of bytes that are read on from a state
abbrev pub records_after : ℕ → State → Option (List ℕ) → List Fields
records_after n state None = []
records_after n state (Some bytes) = records_from default_config n state bytes

-- the bytes that a reader of bytes in memory has yet to read
abbrev pub unread : Reader (Bor (List ℕ)) → Option (List ℕ)
unread reader = source_of (λ (s : Bor (List ℕ)). Some s.now) reader

-- at most n of the records that a reader has yet to give
abbrev pub records_left : ℕ → Reader (Bor (List ℕ)) → List Fields
records_left n reader = records_after n (reader_state reader) (unread reader)

-- a reader of bytes in memory that gives each record as it stands
pub record IsReading (reader : Reader (Bor (List ℕ))) : Type 0 where
  pub defaults : reader_config reader ≡ default_config
  pub untrimmed : reader_trim reader ≡ trim.None
  pub ready : Ready reader
  pub goes_on : IsSome (unread reader)

-- the records, where one read found a record or none, and the rest are these
abbrev pub records_with : Bool → Fields → List Fields → List Fields
records_with true fields rest = fields ∷ rest
records_with false fields rest = []
