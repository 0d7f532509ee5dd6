-- What an operation compares is used by the plan, so it has a distinct value.
use Rattle.std.proofs.Common.{ℕ, ◌<◌, ◌≤◌, length, arith}
use Rattle.mq_base.specs.declared.ids.AttrId.{AttrId}
use Rattle.mq_base.specs.declared.plan.PlanOp.{PlanOp}
use Rattle.mq_base.specs.declared.plan.PlanOp.TheVariants as op
use Rattle.plan_algebra.specs.declared.kind.Kind.{Kind}
use Rattle.plan_algebra.specs.declared.kind.Kind.TheVariants as kind
use Rattle.plan_algebra.specs.declared.plan_facts.PlanFacts.{PlanFacts}
use Rattle.plan_algebra.specs.Facts.{IsNodeAt, IsOneOn, IsTwoOn, IsVisible, facts_at, node_at}
use Rattle.plan_algebra.specs.Kinds.{kind_of}
use Rattle.plan_algebra.proofs.VisibleLaws.{visible-used}
use Rattle.policy_base.specs.declared.prices.Prices.{Prices}
use Rattle.cost_model.specs.Estimates.{HasDistinct, IsPricedFor, distinct_of}

-- an attribute that a node has, has a distinct value
distinct_at : (facts : PlanFacts) (prices : Prices) (n : ℕ) (a : AttrId) → IsPricedFor facts prices → n < length facts.plan.nodes
    → IsVisible (facts_at facts.nodes n) a → 1 ≤ distinct_of prices a.0
distinct_at facts prices n a priced inside visible =
    priced.distinct a.0 (rw facts.are_used ((visible-used facts.plan.nodes facts.nodes facts.are_facts n inside).member a.0 visible.visible))

-- so what an operation compares has distinct values
pub operation-distinct : (facts : PlanFacts) (prices : Prices) (n : ℕ) → IsPricedFor facts prices → n < length facts.plan.nodes
    → HasDistinct prices (node_at facts.plan.nodes n).op
operation-distinct facts prices n priced inside =
    by_kind (node_at facts.plan.nodes n).op (kind_of (node_at facts.plan.nodes n)) (facts.are_facts.node n inside)
  where
    one : (o : PlanOp) (x : ℕ) → x < n → IsOneOn o (facts_at facts.nodes x) → HasDistinct prices o
    one (op.SelConst a cmp v) x below on = distinct_at facts prices x a priced (omega (arith, below, inside)) on
    one (op.SelAttr a cmp b) x below on =
        (distinct_at facts prices x a priced (omega (arith, below, inside)) on.0, distinct_at facts prices x b priced (omega (arith, below, inside)) on.1)
    one (op.Join a cmp b) x below on = absurd on
    one _ x below on = tt

    two : (o : PlanOp) (x y : ℕ) → x < y → y < n → IsTwoOn o (facts_at facts.nodes x) (facts_at facts.nodes y) → HasDistinct prices o
    two (op.Join a cmp b) x y low below on =
        (distinct_at facts prices x a priced (omega (arith, low, below, inside)) on.1, distinct_at facts prices y b priced (omega (arith, below, inside)) on.2)
    two (op.SelConst a cmp v) x y low below on = absurd on
    two (op.SelAttr a cmp b) x y low below on = absurd on
    two _ x y low below on = tt

    leaf : (o : PlanOp) → IsNodeAt (facts_at facts.nodes) n o kind.Leaf → HasDistinct prices o
    leaf (op.SelConst a cmp v) at = absurd at
    leaf (op.SelAttr a cmp b) at = absurd at
    leaf (op.Join a cmp b) at = absurd at
    leaf _ at = tt

    by_kind : (o : PlanOp) (k : Kind) → IsNodeAt (facts_at facts.nodes) n o k → HasDistinct prices o
    by_kind o kind.Leaf at = leaf o at
    by_kind o (kind.One x) at = one o x.0 at.below at.stands
    by_kind o (kind.Two x y) at = two o x.0 y.0 at.left_below at.right_below at.stands
