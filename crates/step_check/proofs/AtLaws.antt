-- Where steps may be taken: a node on tables that are of its operands, and a node that the plan does not have.
use Rattle.std.proofs.Common.{◌≡◌, ℕ, ◌≤◌, true, List, length, Some, None, refl, sym, ap}
use Rattle.std.proofs.lemmas.Bool.{eqb-true}
use Rattle.std.proofs.lemmas.List.{get_or_past}
use Rattle.std.proofs.Math.Path.{subst}
use Rattle.base_laws.proofs.BoolLaws.{both}
use Rattle.mq_base.specs.declared.ids.NodeId.{NodeId}
use Rattle.mq_base.specs.declared.plan.PlanNode.{PlanNode}
use Rattle.mq_base.specs.declared.plan.Step.TheVariants as step
use Rattle.plan_algebra.specs.declared.kind.Kind.{Kind}
use Rattle.plan_algebra.specs.declared.kind.Kind.TheVariants as kind
use Rattle.plan_algebra.specs.Facts.{node_at}
use Rattle.plan_algebra.specs.Kinds.{kind_of}
use Rattle.plan_algebra.specs.Nodes.{leaf_node}
use Rattle.step_check.specs.declared.stack.Slot.{Slot}
use Rattle.extended_plan.specs.Job.{AreOperands, IsOperand, IsStateAt, IsStepAt}
use Rattle.extended_plan.specs.Setting.{Setting, kind_at}
use Rattle.extended_plan.specs.Term.{stands_on, stands_on_both}
use Rattle.step_check.specs.inside.Slots.{IsSlot}
use Rattle.extended_plan.proofs.PlaceLaws.{node_below}

-- a node that the plan does not have counts as a leaf
pub kind-past : (nodes : List PlanNode) (n : ℕ) → length nodes ≤ n → kind_of (node_at nodes n) ≡ kind.Leaf
kind-past nodes n past = ap kind_of (get_or_past nodes n (leaf_node (record { 0 = 0 }) (record { 0 = 0 })) past)

pub ruleset past_leaf = (kind-past)

-- a step on a table of its node's operand
one_at : (s : Setting) (n : NodeId) (x : Slot) (k : Kind) → IsSlot s x → kind_at s n.0 ≡ k → stands_on k (Some x.node.0) ≡ true
    → IsStepAt s n (step.Un n) x.state None
one_at s n x (kind.One y) slot is on = record {
  node = node_below s n.0 (kind.One y) is (λ e. cc);
  taken = (
    refl,
    subst (λ k. IsOperand s k x.state) (sym is)
        (subst (λ i. IsStateAt s i x.state) (sym (eqb-true y.0 x.node.0 on)) slot.there),
  );
}
one_at s n x kind.Leaf slot is on = cc
one_at s n x (kind.Two y z) slot is on = cc

pub one-step : (s : Setting) (n : NodeId) (x : Slot) → IsSlot s x → stands_on (kind_at s n.0) (Some x.node.0) ≡ true
    → IsStepAt s n (step.Un n) x.state None
one-step s n x slot on = one_at s n x (kind_at s n.0) slot refl on

pub ruleset one_step = (one-step)

-- and on tables of both its operands
two_at : (s : Setting) (n : NodeId) (x y : Slot) (k : Kind) → IsSlot s x → IsSlot s y → kind_at s n.0 ≡ k
    → stands_on_both k (Some x.node.0) (Some y.node.0) ≡ true → IsStepAt s n (step.Bin n) x.state (Some y.state)
two_at s n x y (kind.Two l r) left right is on = record {
  node = node_below s n.0 (kind.Two l r) is (λ e. cc);
  taken = (
    refl,
    subst (λ k. AreOperands s k x.state y.state) (sym is) (
      subst (λ i. IsStateAt s i x.state) (sym (eqb-true l.0 x.node.0 (both _ _ on).0)) left.there,
      subst (λ i. IsStateAt s i y.state) (sym (eqb-true r.0 y.node.0 (both _ _ on).1)) right.there,
    ),
  );
}
two_at s n x y kind.Leaf left right is on = cc
two_at s n x y (kind.One z) left right is on = cc

pub two-step : (s : Setting) (n : NodeId) (x y : Slot) → IsSlot s x → IsSlot s y
    → stands_on_both (kind_at s n.0) (Some x.node.0) (Some y.node.0) ≡ true → IsStepAt s n (step.Bin n) x.state (Some y.state)
two-step s n x y left right on = two_at s n x y (kind_at s n.0) left right refl on

pub ruleset two_step = (two-step)
