-- What one cell of each seal hashes: messages of SHA-256, in steps of so many messages of one length, and
-- the blocks that SHA-256 makes of them. docs/CIPHERS.md says what each seal hashes.
use Rattle.std.specs.Prelude.{ℕ, ◌+◌, ◌*◌, ◌/◌, List, length, map, sum, slice_index, nat_le, if◌then◌else◌}
use Rattle.std.specs.List.{range_with_len}
use Rattle.seal_times.specs.declared.cases.Seal.{Seal}
use Rattle.seal_times.specs.declared.cases.Seal.TheVariants.{Deterministic, OrderPreserving, Randomised}
use Rattle.seal_times.specs.declared.cases.TheConstants.{INT_BLOCK, TEXT_BLOCK, INT_DIGITS, TEXT_DIGITS}
use Rattle.seal_times.specs.declared.cases.ValueType.{ValueType}
use Rattle.seal_times.specs.declared.cases.ValueType.TheVariants.{Int, Text}
use Rattle.seal_times.specs.declared.costs.Messages.{Messages}

-- The block of the value of a type.
abbrev pub block_of : ValueType → List ℕ
block_of Int = INT_BLOCK
block_of Text = TEXT_BLOCK

-- The digit string of the value of a type.
abbrev pub digits_of : ValueType → List ℕ
digits_of Int = INT_DIGITS
digits_of Text = TEXT_DIGITS

-- The blocks of 64 bytes of a message: it is followed by a mark of one byte and its length of eight, and
-- filled up.
abbrev pub blocks_of : ℕ → ℕ
blocks_of bytes = (bytes + 9 + 63) / 64

-- The steps of a cell: eight rounds, a step for each digit, or the seed.
abbrev pub steps_of : Seal → ValueType → ℕ
steps_of Deterministic value = 8
steps_of OrderPreserving value = length (digits_of value)
steps_of Randomised value = 1

-- The messages of a round on halves of so many bytes: a second one where the half is longer than a digest.
abbrev pub round_messages : ℕ → Messages
round_messages half = record {
  count = if nat_le half 32 then 1 else 2;
  bytes = 35 + half;
}

-- The messages of a step: of a round; of a digit, one for each block of 32 gaps up to it, on the key, three
-- bytes and two for each digit before it; of the seed, on the key, one byte and four.
abbrev pub messages_of : Seal → ValueType → ℕ → Messages
messages_of Deterministic value round = round_messages (length (block_of value) / 2)
messages_of OrderPreserving value position = record {
  count = slice_index (digits_of value) position / 32 + 1;
  bytes = 35 + 2 * position;
}
messages_of Randomised value step = record { count = 1; bytes = 37 }

-- How many messages a step has.
abbrev pub step_count : Seal → ValueType → ℕ → ℕ
step_count seal value step = (messages_of seal value step).count

-- The blocks that the messages of a step take.
abbrev pub step_blocks : Seal → ValueType → ℕ → ℕ
step_blocks seal value step = (messages_of seal value step).count * blocks_of (messages_of seal value step).bytes

-- What the first so many steps come to, where each has a number.
abbrev pub sum_to : (ℕ → ℕ) → ℕ → ℕ
sum_to number steps = sum (map number (range_with_len 0 steps))

-- The messages of a whole cell.
abbrev pub cell_messages : Seal → ValueType → ℕ
cell_messages seal value = sum_to (step_count seal value) (steps_of seal value)

-- The blocks that the messages of a whole cell take.
abbrev pub cell_blocks : Seal → ValueType → ℕ
cell_blocks seal value = sum_to (step_blocks seal value) (steps_of seal value)
