-- Facts that a type keeps have one proof at most.
use Rattle.std.proofs.Common.{ℕ, List, [], ◌∷◌}
use Rattle.std.proofs.Props.{props}
use Rattle.mq_base.specs.declared.plan.Plan.{Plan}
use Rattle.mq_base.specs.declared.plan.PlanNode.{PlanNode}
use Rattle.mq_base.specs.declared.plan.PlanOp.{PlanOp}
use Rattle.mq_base.specs.declared.plan.PlanOp.TheVariants as op
use Rattle.mq_base.specs.BoundQuery.{AreDistinct}
use Rattle.plan_algebra.specs.declared.facts.NodeFacts.{NodeFacts}
use Rattle.plan_algebra.specs.declared.kind.Kind.{Kind}
use Rattle.plan_algebra.specs.declared.kind.Kind.TheVariants as kind
use Rattle.plan_algebra.specs.Facts.{IsFacts, IsFormed, IsLeafAt, IsNodeAt, IsOneOn, IsPlan, IsTwoOn}
use Rattle.plan_algebra.specs.Tree.{Tree, Leaf, One, Two}

AreDistinct-prop : (xs : List ℕ) → IsProp (AreDistinct xs)
AreDistinct-prop [] = hlevel props
AreDistinct-prop (x ∷ rest) = hlevel (props, AreDistinct-prop rest)

IsOneOn-prop : (o : PlanOp) (f : NodeFacts) → IsProp (IsOneOn o f)
IsOneOn-prop (op.Project kept) f = hlevel props
IsOneOn-prop (op.SelConst a cmp x) f = hlevel props
IsOneOn-prop (op.SelCount cmp n) f = hlevel props
IsOneOn-prop (op.SelAttr a cmp b) f = hlevel props
IsOneOn-prop (op.Group by aggs count) f = hlevel (props, AreDistinct-prop)
IsOneOn-prop _ f = hlevel props

IsTwoOn-prop : (o : PlanOp) (f g : NodeFacts) → IsProp (IsTwoOn o f g)
IsTwoOn-prop op.Product f g = hlevel props
IsTwoOn-prop (op.Join a cmp b) f g = hlevel props
IsTwoOn-prop _ f g = hlevel props

IsFormed-prop : (x : Tree) → IsProp (IsFormed x)
IsFormed-prop (Leaf t used) = hlevel props
IsFormed-prop (One o x) = hlevel (props, IsFormed-prop x, IsOneOn-prop)
IsFormed-prop (Two o x y) = hlevel (props, IsFormed-prop x, IsFormed-prop y, IsTwoOn-prop)

IsLeafAt-prop : (facts : ℕ → NodeFacts) (n : ℕ) (o : PlanOp) → IsProp (IsLeafAt facts n o)
IsLeafAt-prop facts n (op.Base t used) = hlevel props
IsLeafAt-prop facts n _ = hlevel props

IsNodeAt-prop : (facts : ℕ → NodeFacts) (n : ℕ) (o : PlanOp) (k : Kind) → IsProp (IsNodeAt facts n o k)
IsNodeAt-prop facts n o kind.Leaf = IsLeafAt-prop facts n o
IsNodeAt-prop facts n o (kind.One x) = hlevel (props, IsOneOn-prop)
IsNodeAt-prop facts n o (kind.Two x y) = hlevel (props, IsTwoOn-prop)

pub IsFacts-prop : (nodes : List PlanNode) (facts : List NodeFacts) → IsProp (IsFacts nodes facts)
IsFacts-prop nodes facts = hlevel (props, IsNodeAt-prop)

pub IsPlan-prop : (plan : Plan) → IsProp (IsPlan plan)
IsPlan-prop plan = hlevel (props, IsFormed-prop)
