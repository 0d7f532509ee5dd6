-- Where the subtree of each node of a plan begins: in post-order it is a run of nodes that ends with the node.
use Rattle.std.specs.Prelude.{◌≡◌, ℕ, ◌+◌, ◌<◌, List, [], ◌∷◌, ◌++◌, slice_index_or}
use Rattle.mq_base.specs.declared.plan.PlanNode.{PlanNode}
use Rattle.plan_algebra.specs.declared.kind.Kind.{Kind}
use Rattle.plan_algebra.specs.declared.kind.Kind.TheVariants as kind
use Rattle.plan_algebra.specs.Nodes.{tree_of}
use Rattle.plan_algebra.specs.Tree.{Tree, Leaf, One, Two, size}

-- for each node of a tree in post-order, the first node of its subtree, where the first of all is numbered i
abbrev pub firsts_of : ℕ → Tree → List ℕ
firsts_of i (Leaf t used) = i ∷ []
firsts_of i (One op x) = firsts_of i x ++ i ∷ []
firsts_of i (Two op x y) = firsts_of i x ++ firsts_of (i + size x) y ++ i ∷ []

-- the first node of the subtree of node n
abbrev pub first_of : List PlanNode → ℕ → ℕ
first_of nodes n = slice_index_or (firsts_of 0 (tree_of nodes)) n 0

-- the subtree of node n by those of its operands: a leaf is its own; the last operand ends before the node; the right one begins
-- where the left one has ended
abbrev pub IsSpan : (ℕ → ℕ) → ℕ → Kind → Type 0
IsSpan first n kind.Leaf = first n ≡ n
IsSpan first n (kind.One x) = (x.0 + 1 ≡ n) × (first n ≡ first x.0)
IsSpan first n (kind.Two x y) = (x.0 < y.0) × (y.0 + 1 ≡ n) × (first y.0 ≡ x.0 + 1) × (first n ≡ first x.0)
