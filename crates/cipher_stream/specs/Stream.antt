-- What the randomised seal makes of a block, and which step and row a cell names
-- (docs/CIPHERS.md, "Randomised seal").
use Rattle.std.specs.Prelude.{ℕ, ◌+◌, ◌/◌, ◌%◌, List, [], ◌∷◌, ◌++◌, take, drop, slice_index, bit_xor}
use Rattle.std.specs.Int.{w32, w64, to_le_bytes, to_be_bytes, from_be_bytes}
use Rattle.rand_chacha.specs.ChaCha.{word_at, key_of}
use Rattle.sha2.specs.Sha256.{sha256}

-- the generator's seed under a key at a step: the hash of the key, the byte 82 and the step's four bytes
unfoldable pub seed_of : List ℕ → ℕ → List ℕ
seed_of key step = sha256 (key ++ 82 ∷ to_be_bytes w32 step)

-- byte i of a row's stream: the words from word 0 on, each as four bytes with the low one first
unfoldable pub stream_byte : List ℕ → ℕ → ℕ → ℕ
stream_byte seed row i = slice_index (to_le_bytes w32 (word_at 10 (key_of seed) row (i / 4))) (i % 4)

-- the bytes of a block from a place on, each xored with the byte of the stream at its place
abbrev pub covered_from : List ℕ → ℕ → ℕ → List ℕ → List ℕ
covered_from seed row place [] = []
covered_from seed row place (byte ∷ rest) =
    bit_xor byte (stream_byte seed row place) ∷ covered_from seed row (place + 1) rest

-- a whole block under the stream of a row
abbrev pub covered : List ℕ → ℕ → List ℕ → List ℕ
covered seed row block = covered_from seed row 0 block

-- the cell of a block: the step's four bytes, the row's eight, and the block under the row's stream
unfoldable pub sealed : List ℕ → ℕ → ℕ → List ℕ → List ℕ
sealed key step row block =
    to_be_bytes w32 step ++ to_be_bytes w64 row ++ covered (seed_of key step) row block

-- the step of a cell, which its first four bytes spell
unfoldable pub step_of : List ℕ → ℕ
step_of cell = from_be_bytes w32 (take 4 cell)

-- the row of a cell, which the next eight bytes spell
unfoldable pub row_of : List ℕ → ℕ
row_of cell = from_be_bytes w64 (take 8 (drop 4 cell))
