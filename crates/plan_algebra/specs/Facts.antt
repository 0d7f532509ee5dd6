-- The facts of each node of a plan, one equation a node, and what a plan is. docs/MODEL.md, "Facts of a node", tells them in prose.
use Rattle.std.specs.Prelude.{◌≡◌, ◌≢◌, ℕ, ◌<◌, ◌≤◌, ◌||◌, true, false, List, [], length, All, slice_index_or, bit_and, bit_or}
use Rattle.base_laws.specs.Folds.{union_to}
use Rattle.base_laws.specs.Sets.{has, with_members, IsWithin}
use Rattle.mq_base.specs.declared.attr_set.AttrSet.{AttrSet}
use Rattle.mq_base.specs.declared.ids.AttrId.{AttrId}
use Rattle.mq_base.specs.declared.plan.Plan.{Plan}
use Rattle.mq_base.specs.declared.plan.PlanNode.{PlanNode}
use Rattle.mq_base.specs.declared.plan.PlanOp.{PlanOp}
use Rattle.mq_base.specs.declared.plan.PlanOp.TheVariants as op
use Rattle.mq_base.specs.declared.query.Agg.{Agg}
use Rattle.mq_base.specs.BoundQuery.{AreDistinct}
use Rattle.mq_base.specs.Nodes.{aggregated}
use Rattle.plan_algebra.specs.declared.facts.NodeFacts.{NodeFacts}
use Rattle.plan_algebra.specs.declared.kind.Kind.{Kind}
use Rattle.plan_algebra.specs.declared.kind.Kind.TheVariants as kind
use Rattle.plan_algebra.specs.Families.{merged, united}
use Rattle.plan_algebra.specs.Kinds.{kind_of}
use Rattle.plan_algebra.specs.Nodes.{leaf_node, nodes_of, tree_of}
use Rattle.plan_algebra.specs.Tree.{Tree, Leaf, One, Two}

-- the facts of a leaf: its set, no family and no count
abbrev pub leaf_facts : AttrSet → NodeFacts
leaf_facts used = record { visible = used; eq = []; count = false }

-- the attributes that a group leaves visible: the grouped ones and those under a function
abbrev pub group_set : AttrSet → List (AttrId × Agg) → ℕ
group_set by aggs = with_members by.0 (aggregated aggs)

-- facts with the visible attributes cut to a set
abbrev pub cut_to : ℕ → NodeFacts → NodeFacts
cut_to kept f = record { visible = record { 0 = bit_and f.visible.0 kept }; eq = f.eq; count = f.count }

-- facts with two attributes made equivalent
abbrev pub compared : AttrId → AttrId → NodeFacts → NodeFacts
compared a b f = record { visible = f.visible; eq = merged a b f.eq; count = f.count }

-- the facts of a node with one operand, by the operand's
abbrev pub one_facts : PlanOp → NodeFacts → NodeFacts
one_facts (op.Project kept) f = cut_to kept.0 f
one_facts (op.SelAttr a cmp b) f = compared a b f
one_facts (op.Group by aggs count) f = record { visible = (cut_to (group_set by aggs) f).visible; eq = f.eq; count = count }
one_facts _ f = f

-- the facts of a product, by its operands'
abbrev pub product_facts : NodeFacts → NodeFacts → NodeFacts
product_facts f g = record { visible = record { 0 = bit_or f.visible.0 g.visible.0 }; eq = united f.eq g.eq; count = f.count || g.count }

-- the facts of a node with two operands, by its operands'
abbrev pub two_facts : PlanOp → NodeFacts → NodeFacts → NodeFacts
two_facts (op.Join a cmp b) f g = compared a b (product_facts f g)
two_facts _ f g = product_facts f g

-- an attribute that a table has
pub record IsVisible (f : NodeFacts) (a : AttrId) : Type 0 where
  pub small : a.0 < 64
  pub visible : has f.visible.0 a.0 ≡ true

-- the grouped attributes and those under a function are visible, none is both, and none is under two functions
pub record IsGroupOf (f : NodeFacts) (by : AttrSet) (aggs : List (AttrId × Agg)) : Type 0 where
  pub grouped : IsWithin by.0 f.visible.0
  pub under : All (λ (p : AttrId × Agg). IsVisible f p.0) aggs
  pub apart : All (λ (p : AttrId × Agg). has by.0 p.0.0 ≡ false) aggs
  pub once : AreDistinct (aggregated aggs)

-- an operation that stands on one operand, and names what that has
abbrev pub IsOneOn : PlanOp → NodeFacts → Type 0
IsOneOn (op.Project kept) f = IsWithin kept.0 f.visible.0
IsOneOn (op.SelConst a cmp x) f = IsVisible f a
IsOneOn (op.SelCount cmp n) f = f.count ≡ true
IsOneOn (op.SelAttr a cmp b) f = IsVisible f a × IsVisible f b × (a ≢ b)
IsOneOn (op.Group by aggs count) f = IsGroupOf f by aggs × (f.count ≡ false)
IsOneOn _ f = ⊥

-- the sets of a table's family have visible members alone
abbrev pub IsFamilyVisible : NodeFacts → Type 0
IsFamilyVisible f = All (λ (s : AttrSet). IsWithin s.0 f.visible.0) f.eq

-- two operands have no attribute in common, not even in their families, and no count yet
pub record AreApart (f g : NodeFacts) : Type 0 where
  pub apart : bit_and f.visible.0 g.visible.0 ≡ 0
  pub left_family : IsFamilyVisible f
  pub right_family : IsFamilyVisible g
  pub left : f.count ≡ false
  pub right : g.count ≡ false

-- an operation that stands on two operands, and names what they have: left of a join in the left one, right in the right
abbrev pub IsTwoOn : PlanOp → NodeFacts → NodeFacts → Type 0
IsTwoOn op.Product f g = AreApart f g
IsTwoOn (op.Join a cmp b) f g = AreApart f g × IsVisible f a × IsVisible g b
IsTwoOn _ f g = ⊥

-- the facts of a tree
abbrev pub facts_of : Tree → NodeFacts
facts_of (Leaf t used) = leaf_facts used
facts_of (One op x) = one_facts op (facts_of x)
facts_of (Two op x y) = two_facts op (facts_of x) (facts_of y)

-- each operation of the tree stands on as many operands as it takes, and names what they have
abbrev pub IsFormed : Tree → Type 0
IsFormed (Leaf t used) = Unit {0}
IsFormed (One op x) = IsFormed x × IsOneOn op (facts_of x)
IsFormed (Two op x y) = IsFormed x × IsFormed y × IsTwoOn op (facts_of x) (facts_of y)

-- a plan: at most 64 such operations of one tree, in post-order. So there is a node, operands stand before their node, and
-- each node but the last is the operand of one
pub record IsPlan (plan : Plan) : Type 0 where
  pub listed : plan.nodes ≡ nodes_of 0 (tree_of plan.nodes)
  pub formed : IsFormed (tree_of plan.nodes)
  pub few : length plan.nodes ≤ 64

-- the node at a place of a plan, and the facts at a place of a list of facts, where there are such
abbrev pub node_at : List PlanNode → ℕ → PlanNode
node_at nodes n = slice_index_or nodes n (leaf_node (record { 0 = 0 }) (record { 0 = 0 }))

abbrev pub facts_at : List NodeFacts → ℕ → NodeFacts
facts_at facts n = slice_index_or facts n (leaf_facts (record { 0 = 0 }))

-- the facts of node n, which is a leaf
abbrev pub IsLeafAt : (ℕ → NodeFacts) → ℕ → PlanOp → Type 0
IsLeafAt facts n (op.Base t used) = facts n ≡ leaf_facts used
IsLeafAt facts n _ = ⊥

-- the facts of node n, whose operand is node x
pub record IsOneAt (facts : ℕ → NodeFacts) (n : ℕ) (op : PlanOp) (x : ℕ) : Type 0 where
  pub below : x < n
  pub stands : IsOneOn op (facts x)
  pub are : facts n ≡ one_facts op (facts x)

-- the facts of node n, whose operands are the nodes x and y
pub record IsTwoAt (facts : ℕ → NodeFacts) (n : ℕ) (op : PlanOp) (x y : ℕ) : Type 0 where
  pub left_below : x < y
  pub right_below : y < n
  pub stands : IsTwoOn op (facts x) (facts y)
  pub are : facts n ≡ two_facts op (facts x) (facts y)

-- the facts of node n, by its kind
abbrev pub IsNodeAt : (ℕ → NodeFacts) → ℕ → PlanOp → Kind → Type 0
IsNodeAt facts n op kind.Leaf = IsLeafAt facts n op
IsNodeAt facts n op (kind.One x) = IsOneAt facts n op x.0
IsNodeAt facts n op (kind.Two x y) = IsTwoAt facts n op x.0 y.0

-- the facts of the nodes of a plan, each by those of its operands
pub record IsFacts (nodes : List PlanNode) (facts : List NodeFacts) : Type 0 where
  pub for_each : length facts ≡ length nodes
  pub node : (n : ℕ) → n < length nodes → IsNodeAt (facts_at facts) n (node_at nodes n).op (kind_of (node_at nodes n))

-- the attributes of a leaf
abbrev pub leaf_set : PlanOp → ℕ
leaf_set (op.Base t used) = used.0
leaf_set _ = 0

-- the used attributes of a plan: those of its leaves
abbrev pub leaves_set : List PlanNode → ℕ
leaves_set nodes = union_to (λ n. leaf_set (node_at nodes n).op) (length nodes)
