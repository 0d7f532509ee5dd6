-- What the layers that seal blocks rest on, as facts about every key, step, row and block. docs/CIPHERS.md, "Randomised seal".
use Rattle.std.specs.Prelude.{◌≡◌, ℕ, ◌+◌, ◌^◌, ◌<◌, List, length}
use Rattle.cipher_stream.specs.Stream.{sealed, step_of, row_of}

-- a cell has twelve bytes more than its block
abbrev pub CellsAreLonger : Type 0
CellsAreLonger = (key : List ℕ) (step row : ℕ) (block : List ℕ) → length (sealed key step row block) ≡ length block + 12

-- a cell names the step and the row of its seal
pub record NamesItsPlace (cell : List ℕ) (step row : ℕ) : Type 0 where
  pub its_step : step_of cell ≡ step
  pub its_row : row_of cell ≡ row

-- and so does each, where the step is of 32 bits and the row of 64
abbrev pub CellsNameTheirPlace : Type 0
CellsNameTheirPlace = (key : List ℕ) (step row : ℕ) (block : List ℕ) → step < 2 ^ 32 → row < 2 ^ 64
    → NamesItsPlace (sealed key step row block) step row

-- blocks have equal cells under one key, step and row only where they are equal
abbrev pub CellsDetermine : Type 0
CellsDetermine = (key : List ℕ) (step row : ℕ) (block other : List ℕ) → sealed key step row block ≡ sealed key step row other
    → block ≡ other
