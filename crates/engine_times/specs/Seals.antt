-- What is answered of a bare seal. docs/CIPHERS.md, "Sealed columns", tells what the seal of a value is.
use Rattle.std.specs.Prelude.{ℕ, ◌-◌, List, length, slice_index}
use Rattle.mq_base.specs.declared.table.Scheme.{Scheme}
use Rattle.mq_base.specs.declared.value.Value.{Value}
use Rattle.sealed_column.specs.Seal.{seal}
use Rattle.engine_times.specs.declared.values.TheConstants.{KEY, STEP}

-- the last byte of a cell
abbrev pub end_of : List ℕ → ℕ
end_of cell = slice_index cell (length cell - 1)

-- the last byte of the seal of a value in a row of a column that is timed
abbrev pub seal_end_of : Scheme → ℕ → Value → ℕ
seal_end_of scheme row value = end_of (seal scheme KEY STEP row value)
