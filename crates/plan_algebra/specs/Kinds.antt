-- Of which kind a node is: a leaf, a node with one operand, or a node with two; and its tree by those of its operands.
use Rattle.std.specs.Prelude.{◌≡◌, ℕ, Option, Some, None}
use Rattle.mq_base.specs.declared.ids.NodeId.{NodeId}
use Rattle.mq_base.specs.declared.plan.PlanNode.{PlanNode}
use Rattle.mq_base.specs.declared.plan.PlanOp.{PlanOp}
use Rattle.plan_algebra.specs.Nodes.{leaf_by}
use Rattle.plan_algebra.specs.Tree.{Tree}
use Rattle.plan_algebra.specs.Tree as tree
use Rattle.plan_algebra.specs.declared.kind.Kind.{Kind}
use Rattle.plan_algebra.specs.declared.kind.Kind.TheVariants.{Leaf, One, Two}

-- the kind that these operands make
abbrev pub kind_by : Option NodeId → Option NodeId → Kind
kind_by None right = Leaf
kind_by (Some x) None = One x
kind_by (Some x) (Some y) = Two x y

-- the kind of a node
abbrev pub kind_of : PlanNode → Kind
kind_of node = kind_by node.left node.right

-- the tree of node n is made of the trees of its operands
abbrev pub IsTreeAt : (ℕ → Tree) → ℕ → PlanOp → Kind → Type 0
IsTreeAt trees n op Leaf = trees n ≡ leaf_by op
IsTreeAt trees n op (One x) = trees n ≡ tree.One op (trees x.0)
IsTreeAt trees n op (Two x y) = trees n ≡ tree.Two op (trees x.0) (trees y.0)
