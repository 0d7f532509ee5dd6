-- Rows whose cells are values. docs/MODEL.md, "Rows", tells them in prose.
use Rattle.std.specs.Prelude.{ℕ, pos, ◌+ℤ◌, if◌then◌else◌}
use Rattle.std.specs.Ordering.{is_lt, is_gt}
use Rattle.mq_base.specs.declared.query.Agg.{Agg}
use Rattle.mq_base.specs.declared.query.Agg.TheVariants as agg
use Rattle.mq_base.specs.declared.value.Value.{Value}
use Rattle.mq_base.specs.declared.value.Value.TheVariants as value
use Rattle.mq_base.specs.Value.{value_cmp}
use Rattle.row_algebra.specs.Tests.{Tests, holds}

-- the sum of two INT; only INT are summed
abbrev pub sum_of : Value → Value → Value
sum_of (value.Int x) (value.Int y) = value.Int (x +ℤ y)
sum_of (value.Int x) (value.Text t) = value.Int x
sum_of (value.Text s) y = value.Text s

-- the value so far with one more: their sum, or the one that is before or after; of equals the first
abbrev pub value_step : Agg → Value → Value → Value
value_step agg.Sum x y = sum_of x y
value_step agg.Min x y = if is_lt (value_cmp y x) then y else x
value_step agg.Max x y = if is_gt (value_cmp y x) then y else x

-- values compare in their order
abbrev pub value_tests : Tests Value
value_tests = record {
  constant = λ a op x y. holds op (value_cmp y x);
  pair = λ op x y. holds op (value_cmp x y);
  step = value_step;
}

-- a count as a value
abbrev pub value_count : ℕ → Value
value_count n = value.Int (pos n)
