-- What the operations of a plan ask of the attributes that they name. docs/MODEL.md, "Clusters and keys", tells it in prose.
use Rattle.std.specs.Prelude.{ℕ, ◌^◌, Bool, true, false, List, length, filter, if◌then◌else◌}
use Rattle.base_laws.specs.Folds.{union_to}
use Rattle.base_laws.specs.Sets.{with_members}
use Rattle.mq_base.specs.declared.attr_set.AttrSet.{AttrSet}
use Rattle.mq_base.specs.declared.ids.AttrId.{AttrId}
use Rattle.mq_base.specs.declared.plan.PlanNode.{PlanNode}
use Rattle.mq_base.specs.declared.plan.PlanOp.{PlanOp}
use Rattle.mq_base.specs.declared.plan.PlanOp.TheVariants as op
use Rattle.mq_base.specs.declared.query.Agg.{Agg}
use Rattle.mq_base.specs.declared.query.Agg.TheVariants.{Sum, Min, Max}
use Rattle.mq_base.specs.declared.query.CmpOp.{CmpOp}
use Rattle.mq_base.specs.declared.query.CmpOp.TheVariants.{Eq, Ne}
use Rattle.mq_base.specs.Nodes.{aggregated}
use Rattle.plan_algebra.specs.Facts.{node_at}
use Rattle.plan_algebra.specs.Families.{pair}

-- whether a comparison asks for the order of its sides, and not only whether they are equal
abbrev pub is_order : CmpOp → Bool
is_order Eq = false
is_order Ne = false
is_order _ = true

-- whether a function asks for the order of its values
abbrev pub is_extreme : Agg → Bool
is_extreme Sum = false
is_extreme Min = true
is_extreme Max = true

-- the attributes under MIN or MAX
abbrev pub extremes : List (AttrId × Agg) → List ℕ
extremes aggs = aggregated (filter (λ p. is_extreme p.1) aggs)

-- the attributes whose order an operation asks for: those of an order comparison, and those under MIN or MAX
abbrev pub ordered_by : PlanOp → ℕ
ordered_by (op.SelConst a cmp x) = if is_order cmp then 2 ^ a.0 else 0
ordered_by (op.SelAttr a cmp b) = if is_order cmp then (pair a b).0 else 0
ordered_by (op.Join a cmp b) = if is_order cmp then (pair a b).0 else 0
ordered_by (op.Group by aggs count) = with_members 0 (extremes aggs)
ordered_by _ = 0

-- the attributes of which an operation asks whether values are equal: those of an = or <>, of any join, and the grouped ones
abbrev pub equated_by : PlanOp → ℕ
equated_by (op.SelConst a cmp x) = if is_order cmp then 0 else 2 ^ a.0
equated_by (op.SelAttr a cmp b) = if is_order cmp then 0 else (pair a b).0
equated_by (op.Join a cmp b) = (pair a b).0
equated_by (op.Group by aggs count) = by.0
equated_by _ = 0

-- the attributes whose order the nodes of a plan ask for; the selections of HAVING are nodes
abbrev pub ordered_set : List PlanNode → AttrSet
ordered_set nodes = record { 0 = union_to (λ n. ordered_by (node_at nodes n).op) (length nodes) }

-- the attributes of which the nodes of a plan ask whether values are equal
abbrev pub equated_set : List PlanNode → AttrSet
equated_set nodes = record { 0 = union_to (λ n. equated_by (node_at nodes n).op) (length nodes) }
