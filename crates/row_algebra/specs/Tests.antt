-- What is asked of cells, and by that of rows. A row without the cell, or without the count, passes no test of it.
-- docs/MODEL.md, "Rows", tells them in prose.
use Rattle.std.specs.Prelude.{ℕ, Bool, false, not, ℤ, pos, List, filter, Option, Some, None}
use Rattle.std.specs.List.{list_all}
use Rattle.std.specs.Ordering.{is_eq, is_lt, is_gt, int_cmp}
use Rattle.std.specs.declared.cmp.Ordering.{Ordering}
use Rattle.mq_base.specs.declared.query.Agg.{Agg}
use Rattle.mq_base.specs.declared.query.CmpOp.{CmpOp}
use Rattle.mq_base.specs.declared.query.CmpOp.TheVariants as cmp
use Rattle.mq_base.specs.declared.query.Cond.{Cond}
use Rattle.mq_base.specs.declared.query.Cond.TheVariants as cond
use Rattle.mq_base.specs.declared.query.Having.{Having}
use Rattle.mq_base.specs.declared.query.Having.TheVariants as having
use Rattle.mq_base.specs.declared.value.Value.{Value}
use Rattle.row_algebra.specs.Rows.{RowOf, product}

-- what can be done with cells of a kind
pub record Tests (C : Type 0) : Type 0 where
  -- whether the cell of an attribute compares so with a constant
  pub constant : ℕ → CmpOp → Value → C → Bool
  -- whether two cells compare so
  pub pair : CmpOp → C → C → Bool
  -- what a function has of the cells so far, and of one more
  pub step : Agg → C → C → C

-- whether a comparison holds of two values that are ordered so
abbrev pub holds : CmpOp → Ordering → Bool
holds cmp.Eq order = is_eq order
holds cmp.Ne order = not (is_eq order)
holds cmp.Lt order = is_lt order
holds cmp.Le order = not (is_gt order)
holds cmp.Gt order = is_gt order
holds cmp.Ge order = not (is_lt order)

-- whether there is something that passes
abbrev pub passes : {X : Type 0} → (X → Bool) → Option X → Bool
passes test None = false
passes test (Some x) = test x

-- whether there are two things that pass together
abbrev pub both_pass : {X : Type 0} → (X → X → Bool) → Option X → Option X → Bool
both_pass test None y = false
both_pass test (Some x) y = passes (test x) y

-- whether the attribute of a row compares so with a constant
abbrev pub passes_constant : {C : Type 0} → Tests C → ℕ → CmpOp → Value → RowOf C → Bool
passes_constant tests a op value r = passes (tests.constant a op value) (r.cell a)

-- whether two attributes of a row compare so
abbrev pub passes_pair : {C : Type 0} → Tests C → ℕ → CmpOp → ℕ → RowOf C → Bool
passes_pair tests a op b r = both_pass (tests.pair op) (r.cell a) (r.cell b)

-- whether the count of a row compares so with a number
abbrev pub passes_count : {C : Type 0} → CmpOp → ℤ → RowOf C → Bool
passes_count op number r = passes (λ n. holds op (int_cmp (pos n) number)) r.count

-- whether a row meets a condition, and each of several
abbrev pub meets : {C : Type 0} → Tests C → RowOf C → Cond → Bool
meets tests r (cond.Const a op value) = passes_constant tests a.0 op value r
meets tests r (cond.Attrs a op b) = passes_pair tests a.0 op b.0 r

abbrev pub meets_all : {C : Type 0} → Tests C → List Cond → RowOf C → Bool
meets_all tests conds r = list_all (meets tests r) conds

-- whether a row meets a condition of HAVING, and each of several
abbrev pub meets_having : {C : Type 0} → Tests C → RowOf C → Having → Bool
meets_having tests r (having.Const a op value) = passes_constant tests a.0 op value r
meets_having tests r (having.Count op number) = passes_count op number r

abbrev pub meets_every_having : {C : Type 0} → Tests C → List Having → RowOf C → Bool
meets_every_having tests conds r = list_all (meets_having tests r) conds

-- the rows of the product of which an attribute of the left and one of the right compare so
abbrev pub join : {C : Type 0} → Tests C → ℕ → CmpOp → ℕ → List (RowOf C) → List (RowOf C) → List (RowOf C)
join tests a op b us vs = filter (passes_pair tests a op b) (product us vs)
