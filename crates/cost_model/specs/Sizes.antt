-- The bytes of a cell, and the units of work to seal or open it. docs/MODEL.md, "Estimates and costs", has the same table.
use Rattle.std.specs.Prelude.{ℕ, Option, Some, None}
use Rattle.mq_base.specs.declared.table.Scheme.{Scheme}
use Rattle.mq_base.specs.declared.table.Scheme.TheVariants.{Rnd, Det, Ope}
use Rattle.mq_base.specs.declared.value.ValueType.{ValueType}
use Rattle.mq_base.specs.declared.value.ValueType.TheVariants.{Int, Text}

-- the bytes of a cell of a type, in plaintext or under a scheme
abbrev pub cell_bytes : ValueType → Option Scheme → ℕ
cell_bytes Int None = 16
cell_bytes Int (Some Rnd) = 28
cell_bytes Int (Some Det) = 16
cell_bytes Int (Some Ope) = 32
cell_bytes Text None = 122
cell_bytes Text (Some Rnd) = 134
cell_bytes Text (Some Det) = 122
cell_bytes Text (Some Ope) = 240

-- the units of work to seal or open a cell of a type under a scheme
abbrev pub cell_units : Scheme → ValueType → ℕ
cell_units Rnd Int = 1
cell_units Rnd Text = 4
cell_units Det Int = 4
cell_units Det Text = 16
cell_units Ope Int = 64
cell_units Ope Text = 256
