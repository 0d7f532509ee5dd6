-- A constant beside the cells of a column. docs/MODEL.md, "Encoded run", tells it in prose.
use Rattle.std.specs.Prelude.{ℕ, List, Option, Some, None}
use Rattle.column_table.specs.Cells.{Cell, Plain, Sealed}
use Rattle.mq_base.specs.declared.table.Scheme.{Scheme}
use Rattle.mq_base.specs.declared.value.Value.{Value}
use Rattle.sealed_column.specs.Seal.{seal}

-- a constant as a cell beside those that a scheme sealed under a key, or none did
abbrev pub constant_cell : List ℕ → Value → Option Scheme → Cell
constant_cell key x None = Plain x
constant_cell key x (Some scheme) = Sealed (seal scheme key 0 0 x)
