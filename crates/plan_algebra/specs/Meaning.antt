-- The rows of each node of a plan, and that a plan means a query. docs/MODEL.md, "Plan", tells it in prose.
use Rattle.std.specs.Prelude.{◌≡◌, ℕ, ◌-◌, List, [], map, length}
use Rattle.mq_base.specs.declared.plan.Plan.{Plan}
use Rattle.mq_base.specs.declared.plan.PlanNode.{PlanNode}
use Rattle.mq_base.specs.declared.query.CmpOp.{CmpOp}
use Rattle.mq_base.specs.declared.query.Query.{Query}
use Rattle.mq_base.specs.declared.schema.Schema.{Schema}
use Rattle.plan_algebra.specs.Nodes.{trees_after, tree_at}
use Rattle.plan_algebra.specs.Plan.{turned}
use Rattle.plan_algebra.specs.Tree.{sem}
use Rattle.row_algebra.specs.Contents.{Contents, HaveOwnCells}
use Rattle.row_algebra.specs.Meaning.{query_rows}
use Rattle.row_algebra.specs.Rows.{RowOf}
use Rattle.row_algebra.specs.Select.{selected}
use Rattle.row_algebra.specs.Tests.{Tests}
use Rattle.row_algebra.specs.Values.{value_tests, value_count}

-- two cells compare the other way round by the comparison turned round
abbrev pub TurnsRound : {C : Type 0} → Tests C → Type 0
TurnsRound {C} tests = (op : CmpOp) (c d : C) → tests.pair (turned op) d c ≡ tests.pair op c d

-- the rows of node n of a plan: those of the subtree at n
abbrev pub node_rows : {C : Type 0} → Tests C → (ℕ → List (RowOf C)) → List PlanNode → ℕ → List (RowOf C)
node_rows tests rows nodes n = sem tests rows (tree_at (trees_after [] nodes) n)

-- the rows of the plan's root, read through the select list, are the rows that the query asks for
abbrev pub MeansQuery : Schema → Query → Plan → Type 0
MeansQuery schema q plan = (contents : Contents) → HaveOwnCells schema contents
    → map (selected value_count q.items) (node_rows value_tests contents plan.nodes (length plan.nodes - 1))
    ≡ query_rows contents q
