-- The plan of a query as a tree of operations, and the rows that it gives. docs/MODEL.md, "Plan", tells it in prose.
use Rattle.std.specs.Prelude.{ℕ, ◌+◌, List, map, filter}
use Rattle.mq_base.specs.declared.attr_set.AttrSet.{AttrSet}
use Rattle.mq_base.specs.declared.ids.TableId.{TableId}
use Rattle.mq_base.specs.declared.plan.PlanOp.{PlanOp}
use Rattle.mq_base.specs.declared.plan.PlanOp.TheVariants as op
use Rattle.row_algebra.specs.Groups.{grouped}
use Rattle.row_algebra.specs.Rows.{RowOf, cut, product}
use Rattle.row_algebra.specs.Tests.{Tests, join, passes_constant, passes_count, passes_pair}

-- the used attributes of a table, an operation on one operand, or an operation on two
pub data Tree : Type 0 where
  Leaf : (table : TableId) → (used : AttrSet) → Tree
  One : (op : PlanOp) → (operand : Tree) → Tree
  Two : (op : PlanOp) → (left : Tree) → (right : Tree) → Tree

-- the number of nodes
abbrev pub size : Tree → ℕ
size (Leaf table used) = 1
size (One op operand) = size operand + 1
size (Two op left right) = size left + size right + 1

-- the rows that an operation on one operand makes of its rows; no other operation stands there
abbrev pub apply_one : {C : Type 0} → Tests C → PlanOp → List (RowOf C) → List (RowOf C)
apply_one tests (op.Project kept) rows = map (cut kept.0) rows
apply_one tests (op.SelConst a cmp x) rows = filter (passes_constant tests a.0 cmp x) rows
apply_one tests (op.SelCount cmp n) rows = filter (passes_count cmp n) rows
apply_one tests (op.SelAttr a cmp b) rows = filter (passes_pair tests a.0 cmp b.0) rows
apply_one tests (op.Group by aggs count) rows = grouped tests by.0 aggs count rows
apply_one tests _ rows = rows

-- the rows that an operation on two operands makes of theirs; no other operation stands there
abbrev pub apply_two : {C : Type 0} → Tests C → PlanOp → List (RowOf C) → List (RowOf C) → List (RowOf C)
apply_two tests op.Product left right = product left right
apply_two tests (op.Join a cmp b) left right = join tests a.0 cmp b.0 left right
apply_two tests _ left right = left

-- the rows that a tree gives, where a table has these: a leaf cuts them to its attributes
abbrev pub sem : {C : Type 0} → Tests C → (ℕ → List (RowOf C)) → Tree → List (RowOf C)
sem tests rows (Leaf t used) = map (cut used.0) (rows t.0)
sem tests rows (One op x) = apply_one tests op (sem tests rows x)
sem tests rows (Two op x y) = apply_two tests op (sem tests rows x) (sem tests rows y)
