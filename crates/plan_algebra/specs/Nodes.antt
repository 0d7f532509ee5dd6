-- A plan as a list of nodes in post-order, and the tree of each node read back. docs/MODEL.md, "Plan", tells it in prose.
use Rattle.std.specs.Prelude.{ℕ, ◌+◌, ◌-◌, List, [], ◌∷◌, ◌++◌, length, Option, Some, None, slice_index_or}
use Rattle.mq_base.specs.declared.attr_set.AttrSet.{AttrSet}
use Rattle.mq_base.specs.declared.ids.NodeId.{NodeId}
use Rattle.mq_base.specs.declared.ids.TableId.{TableId}
use Rattle.mq_base.specs.declared.plan.PlanNode.{PlanNode}
use Rattle.mq_base.specs.declared.plan.PlanOp.{PlanOp}
use Rattle.mq_base.specs.declared.plan.PlanOp.TheVariants as op
use Rattle.plan_algebra.specs.Tree.{Tree, Leaf, One, Two, size}

-- a node by its operation and the numbers of its operands
abbrev pub leaf_node : TableId → AttrSet → PlanNode
leaf_node t used = record { op = op.Base t used; left = None; right = None }

abbrev pub one_node : PlanOp → ℕ → PlanNode
one_node op operand = record { op = op; left = Some (record { 0 = operand }); right = None }

abbrev pub two_node : PlanOp → ℕ → ℕ → PlanNode
two_node op left right = record { op = op; left = Some (record { 0 = left }); right = Some (record { 0 = right }) }

-- the number of a tree's last node, where its first is numbered i
abbrev pub last_of : ℕ → Tree → ℕ
last_of i x = i + size x - 1

-- the nodes of a tree in post-order, the first numbered i
abbrev pub nodes_of : ℕ → Tree → List PlanNode
nodes_of i (Leaf t used) = leaf_node t used ∷ []
nodes_of i (One op x) = nodes_of i x ++ one_node op (last_of i x) ∷ []
nodes_of i (Two op x y) = nodes_of i x ++ nodes_of (i + size x) y ++ two_node op (last_of i x) (last_of (i + size x) y) ∷ []

-- the subtrees of a tree in post-order: each stands for the node at its place
abbrev pub subtrees : Tree → List Tree
subtrees (Leaf t used) = Leaf t used ∷ []
subtrees (One op x) = subtrees x ++ One op x ∷ []
subtrees (Two op x y) = subtrees x ++ subtrees y ++ Two op x y ∷ []

-- the tree of an operation without operands
abbrev pub leaf_by : PlanOp → Tree
leaf_by (op.Base t used) = Leaf t used
leaf_by _ = Leaf (record { 0 = 0 }) (record { 0 = 0 })

-- the tree at a place, where there is one
abbrev pub tree_at : List Tree → ℕ → Tree
tree_at ts n = slice_index_or ts n (Leaf (record { 0 = 0 }) (record { 0 = 0 }))

-- the tree of a node, where its operands are among these
abbrev pub tree_by : List Tree → PlanOp → Option NodeId → Option NodeId → Tree
tree_by ts op None right = leaf_by op
tree_by ts op (Some x) None = One op (tree_at ts x.0)
tree_by ts op (Some x) (Some y) = Two op (tree_at ts x.0) (tree_at ts y.0)

-- the trees of all nodes of a plan, after those of the nodes before them
abbrev pub trees_after : List Tree → List PlanNode → List Tree
trees_after ts [] = ts
trees_after ts (node ∷ rest) = trees_after (ts ++ tree_by ts node.op node.left node.right ∷ []) rest

-- the tree of a plan: that of its last node
abbrev pub tree_of : List PlanNode → Tree
tree_of nodes = tree_at (trees_after [] nodes) (length nodes - 1)
