-- What the layers that seal blocks rest on, as facts about every key and block. docs/CIPHERS.md, "Deterministic seal".
use Rattle.std.specs.Prelude.{◌≡◌, ℕ, ◌%◌, ◌≤◌, List, length}
use Rattle.cipher_feistel.specs.Feistel.{sealed}

-- a block that is sealed: of an even length of at most 122 bytes
pub record IsBlock (block : List ℕ) : Type 0 where
  pub even : length block % 2 ≡ 0
  pub short : length block ≤ 122

-- a cell is as long as its block
abbrev pub CellsAreAsLong : Type 0
CellsAreAsLong = (key block : List ℕ) → IsBlock block → length (sealed key block) ≡ length block

-- blocks of one length have equal cells under one key only where they are equal
abbrev pub CellsDetermine : Type 0
CellsDetermine = (key block other : List ℕ) → IsBlock block → length other ≡ length block
    → sealed key other ≡ sealed key block → other ≡ block
