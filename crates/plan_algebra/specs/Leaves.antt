-- The tables of a plan's leaves. docs/FORMATS.md, "Plan", tells them in prose.
use Rattle.std.specs.Prelude.{List, Option, Some, None, filter_map}
use Rattle.mq_base.specs.declared.ids.TableId.{TableId}
use Rattle.mq_base.specs.declared.plan.PlanNode.{PlanNode}
use Rattle.mq_base.specs.declared.plan.PlanOp.{PlanOp}
use Rattle.mq_base.specs.declared.plan.PlanOp.TheVariants as op

-- the table of which an operation is the leaf
abbrev pub leaf_table : PlanOp → Option TableId
leaf_table (op.Base t used) = Some t
leaf_table _ = None

-- the tables of the leaves among these nodes, in their order
abbrev pub leaf_tables : List PlanNode → List TableId
leaf_tables nodes = filter_map (λ (node : PlanNode). leaf_table node.op) nodes
