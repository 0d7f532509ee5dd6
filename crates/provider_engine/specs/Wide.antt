-- Which nodes of a plan have more rows than a table can have. docs/MODEL.md, "Encoded run", tells it in prose.
use Rattle.std.specs.Prelude.{ℕ, ◌≤◌, ◌<◌, List, [], length}
use Rattle.std.specs.List.{AllByRecursion}
use Rattle.column_table.specs.Tables.{most_rows}
use Rattle.extended_plan.specs.Ready.{IsReady}
use Rattle.extended_plan.specs.Setting.{Setting}
use Rattle.mq_base.specs.declared.plan.PlanNode.{PlanNode}
use Rattle.plan_algebra.specs.Meaning.{node_rows}
use Rattle.plan_algebra.specs.Nodes.{subtrees, tree_at, trees_after}
use Rattle.plan_algebra.specs.Tree.{Tree, sem}
use Rattle.row_algebra.specs.Contents.{Contents}
use Rattle.row_algebra.specs.Values.{value_tests}

-- the tree of a node
abbrev pub tree_of_node : List PlanNode → ℕ → Tree
tree_of_node nodes n = tree_at (trees_after [] nodes) n

-- a node is wide: it has more rows
abbrev pub IsWide : Contents → List PlanNode → ℕ → Type 0
IsWide contents nodes n = most_rows < length (node_rows value_tests contents nodes n)

-- no node of a tree is wide
abbrev pub NoneIsWide : Contents → Tree → Type 0
NoneIsWide contents tree = AllByRecursion (λ t. length (sem value_tests contents t) ≤ most_rows) (subtrees tree)

-- where no node of a plan is wide, none of the tree of a node is
abbrev pub NodesAreNarrow : Type 0
NodesAreNarrow = (s : Setting) (contents : Contents) → IsReady s
    → ((m : ℕ) → m < length s.basis.nodes → IsWide contents s.basis.nodes m → ⊥) → (n : ℕ) → n < length s.basis.nodes
    → NoneIsWide contents (tree_of_node s.basis.nodes n)
