-- The cells that are timed: those that the three seals of docs/CIPHERS.md make of the value of a type.
use Rattle.std.specs.Prelude.{ℕ, ◌+◌, ◌-◌, ◌*◌, List, length, slice_index}
use Rattle.cipher_feistel.specs.Feistel.{sealed as deterministic_cell}
use Rattle.cipher_order.specs.Order.{sealed as order_preserving_cell}
use Rattle.cipher_stream.specs.Stream.{sealed as randomised_cell}
use Rattle.seal_times.specs.declared.cases.Seal.{Seal}
use Rattle.seal_times.specs.declared.cases.Seal.TheVariants.{Deterministic, OrderPreserving, Randomised}
use Rattle.seal_times.specs.declared.cases.ValueType.{ValueType}
use Rattle.seal_times.specs.declared.timing.TheConstants.{STEP, ROW}
use Rattle.seal_times.specs.Costs.{block_of, digits_of}

-- The cell of a type's value under a key.
abbrev pub cell_of : Seal → ValueType → List ℕ → List ℕ
cell_of Deterministic value key = deterministic_cell key (block_of value)
cell_of OrderPreserving value key = order_preserving_cell key (digits_of value)
cell_of Randomised value key = randomised_cell key STEP ROW (block_of value)

-- How many bytes such a cell has.
abbrev pub cell_len_of : Seal → ValueType → ℕ
cell_len_of Deterministic value = length (block_of value)
cell_len_of OrderPreserving value = 2 * length (digits_of value)
cell_len_of Randomised value = length (block_of value) + 12

-- The last byte of a cell.
abbrev pub end_of : List ℕ → ℕ
end_of cell = slice_index cell (length cell - 1)
