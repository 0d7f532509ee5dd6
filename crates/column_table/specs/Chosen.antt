-- Rows that are chosen of a table, and how a constant is sealed that its cells are compared with. docs/MODEL.md, "Encoded run", tells it in
-- prose.
use Rattle.std.specs.Prelude.{◌≡◌, ℕ, Bool, List, Option, IfSome, filter}
use Rattle.std.specs.List.{range_with_len}
use Rattle.column_table.specs.Cells.{Seals}
use Rattle.column_table.specs.Columns.{Shown}
use Rattle.mq_base.specs.declared.value.Value.{Value}
use Rattle.sealed_column.specs.Seal.{seal}

-- the seals seal a constant of an attribute as its column's scheme does under a key, where one did
abbrev pub IsSealedBeside : Seals → List ℕ → ℕ → Value → Option Shown → Type 0
IsSealedBeside seals key a x column =
    IfSome column (λ (c : Shown). IfSome c.scheme (λ scheme. seals.seal a 0 0 x ≡ seal scheme key 0 0 x))

-- rows that some test chooses of so many, ascending
pub record AreChosen (rows : ℕ) (kept : List ℕ) : Type 0 where
  pub test : ℕ → Bool
  pub are : kept ≡ filter test (range_with_len 0 rows)
