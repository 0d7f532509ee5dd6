-- The cells of an encoded table, and what can be asked of them: sealed ones compare by their bytes. docs/MODEL.md, "Encoded run", tells
-- it in prose.
use Rattle.std.specs.Prelude.{ℕ, Bool, false, List, Option, if◌then◌else◌}
use Rattle.std.specs.Cmp.Lexicographic.{slice_cmp}
use Rattle.std.specs.Ordering.{nat_cmp}
use Rattle.mq_base.specs.declared.query.Agg.{Agg}
use Rattle.mq_base.specs.declared.query.Agg.TheVariants.{Sum, Min, Max}
use Rattle.mq_base.specs.declared.query.CmpOp.{CmpOp}
use Rattle.mq_base.specs.declared.query.CmpOp.TheVariants.{Lt, Gt}
use Rattle.mq_base.specs.declared.value.Value.{Value}
use Rattle.mq_base.specs.Value.{value_cmp}
use Rattle.row_algebra.specs.Tests.{Tests, holds}
use Rattle.row_algebra.specs.Values.{sum_of}

-- a value, or the bytes of a sealed one
pub data Cell : Type 0 where
  Plain : (value : Value) → Cell
  Sealed : (bytes : List ℕ) → Cell

-- how the cells of each attribute are sealed, at a place in the list of steps and a row of the table, and opened
pub record Seals : Type 0 where
  pub seal : ℕ → ℕ → ℕ → Value → List ℕ
  pub opened : ℕ → List ℕ → Option Value

-- whether the cell of an attribute compares so with a constant, which is sealed where the cell is
abbrev pub compares_constant : Seals → ℕ → CmpOp → Value → Cell → Bool
compares_constant seals a op x (Plain v) = holds op (value_cmp v x)
compares_constant seals a op x (Sealed c) = holds op (slice_cmp nat_cmp c (seals.seal a 0 0 x))

-- whether two cells compare so: values with values, bytes with bytes
abbrev pub compares_pair : CmpOp → Cell → Cell → Bool
compares_pair op (Plain v) (Plain w) = holds op (value_cmp v w)
compares_pair op (Sealed c) (Sealed d) = holds op (slice_cmp nat_cmp c d)
compares_pair op _ _ = false

-- the sum of two plain cells; no other cells are summed
abbrev pub summed : Cell → Cell → Cell
summed (Plain v) (Plain w) = Plain (sum_of v w)
summed c d = c

-- the cell so far with one more: their sum, or the one that is before or after; of equals the first
abbrev pub cell_step : Agg → Cell → Cell → Cell
cell_step Sum c d = summed c d
cell_step Min c d = if compares_pair Lt d c then d else c
cell_step Max c d = if compares_pair Gt d c then d else c

-- cells as rows are made of them
abbrev pub cell_tests : Seals → Tests Cell
cell_tests seals = record { constant = compares_constant seals; pair = compares_pair; step = cell_step }
