-- The facts of a plan's nodes as they are gathered, node by node. Only the gathering speaks of these; facts are those of Facts.antt.
use Rattle.std.specs.Prelude.{◌<◌, List, [], ◌∷◌, ◌++◌, length}
use Rattle.mq_base.specs.declared.plan.PlanNode.{PlanNode}
use Rattle.mq_base.specs.declared.plan.PlanOp.{PlanOp}
use Rattle.mq_base.specs.declared.plan.PlanOp.TheVariants as op
use Rattle.plan_algebra.specs.declared.facts.NodeFacts.{NodeFacts}
use Rattle.plan_algebra.specs.declared.kind.Kind.{Kind}
use Rattle.plan_algebra.specs.declared.kind.Kind.TheVariants as kind
use Rattle.plan_algebra.specs.Facts.{IsOneOn, IsTwoOn, facts_at, leaf_facts, one_facts, two_facts}
use Rattle.plan_algebra.specs.Kinds.{kind_of}

-- the facts of an operation without operands
abbrev pub base_facts : PlanOp → NodeFacts
base_facts (op.Base t used) = leaf_facts used
base_facts _ = leaf_facts (record { 0 = 0 })

-- the facts of a node, by those of the nodes before it
abbrev pub facts_by : List NodeFacts → PlanOp → Kind → NodeFacts
facts_by earlier op kind.Leaf = base_facts op
facts_by earlier op (kind.One x) = one_facts op (facts_at earlier x.0)
facts_by earlier op (kind.Two x y) = two_facts op (facts_at earlier x.0) (facts_at earlier y.0)

abbrev pub node_facts : List NodeFacts → PlanNode → NodeFacts
node_facts earlier node = facts_by earlier node.op (kind_of node)

-- the facts of all nodes, after those of the nodes before them
abbrev pub facts_after : List NodeFacts → List PlanNode → List NodeFacts
facts_after earlier [] = earlier
facts_after earlier (node ∷ rest) = facts_after (earlier ++ node_facts earlier node ∷ []) rest

-- an operation of a leaf
abbrev pub IsBase : PlanOp → Type 0
IsBase (op.Base t used) = Unit {0}
IsBase _ = ⊥

-- an operation that stands on nodes before it
abbrev pub StandsBy : List NodeFacts → PlanOp → Kind → Type 0
StandsBy earlier op kind.Leaf = IsBase op
StandsBy earlier op (kind.One x) = (x.0 < length earlier) × IsOneOn op (facts_at earlier x.0)
StandsBy earlier op (kind.Two x y) = (x.0 < y.0) × (y.0 < length earlier) × IsTwoOn op (facts_at earlier x.0) (facts_at earlier y.0)

-- a node that stands on nodes before it
pub record Stands (earlier : List NodeFacts) (node : PlanNode) : Type 0 where
  pub by_kind : StandsBy earlier node.op (kind_of node)

-- each node in turn stands on nodes before it
abbrev pub AllStand : List NodeFacts → List PlanNode → Type 0
AllStand earlier [] = Unit {0}
AllStand earlier (node ∷ rest) = Stands earlier node × AllStand (earlier ++ node_facts earlier node ∷ []) rest
