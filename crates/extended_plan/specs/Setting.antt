-- What extended plans are judged by: the policy, the plan of the query with the facts of its nodes, and what costs are reckoned from.
-- docs/MODEL.md, "Extended plans", tells it in prose.
use Rattle.std.specs.Prelude.{ℕ, ◌-◌, ◌==◌, Bool, false, List, length, Option, slice_index_or}
use Rattle.std.specs.List.{position}
use Rattle.mq_base.specs.declared.ids.SubjectId.{SubjectId}
use Rattle.mq_base.specs.declared.ids.TableId.{TableId}
use Rattle.mq_base.specs.declared.plan.PlanNode.{PlanNode}
use Rattle.mq_base.specs.declared.plan.PlanOp.{PlanOp}
use Rattle.mq_base.specs.declared.plan.PlanOp.TheVariants as op
use Rattle.mq_base.specs.declared.table.Scheme.{Scheme}
use Rattle.cost_model.specs.Costs.{Basis}
use Rattle.plan_algebra.specs.declared.facts.NodeFacts.{NodeFacts}
use Rattle.plan_algebra.specs.declared.kind.Kind.{Kind}
use Rattle.plan_algebra.specs.Facts.{facts_at, node_at}
use Rattle.plan_algebra.specs.Kinds.{kind_of}
use Rattle.policy_base.specs.declared.policy.Policy.{Policy}

-- the policy, and the nodes, facts, estimates, clusters and prices
pub record Setting : Type 0 where
  pub policy : Policy
  pub basis : Basis

-- the operation of a node, its kind with its operands, and its facts
abbrev pub op_at : Setting → ℕ → PlanOp
op_at s n = (node_at s.basis.nodes n).op

abbrev pub kind_at : Setting → ℕ → Kind
kind_at s n = kind_of (node_at s.basis.nodes n)

abbrev pub known_at : Setting → ℕ → NodeFacts
known_at s n = facts_at s.basis.facts n

-- the scheme of each attribute
abbrev pub schemes : Setting → List Scheme
schemes s = s.basis.clusters.scheme

-- the last node
abbrev pub root : Setting → ℕ
root s = length s.basis.nodes - 1

-- whether an operation is the leaf of a table
abbrev pub is_base : TableId → PlanOp → Bool
is_base t (op.Base u used) = u.0 == t.0
is_base t _ = false

-- the leaf of a table, where the plan has one
abbrev pub leaf_of : Setting → TableId → Option ℕ
leaf_of s t = position (λ (node : PlanNode). is_base t node.op) s.basis.nodes

-- the subject that stores a table
abbrev pub store_of : Setting → TableId → SubjectId
store_of s t = slice_index_or s.policy.store t.0 (record { 0 = 0 })
