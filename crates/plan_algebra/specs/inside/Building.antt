-- The plan of a query as a list that grows at its end: what each step of its making puts there. Only the making of a plan
-- speaks of these; a plan is that of Plan.antt.
use Rattle.std.specs.Prelude.{ℕ, ◌-◌, Bool, List, [], ◌∷◌, ◌++◌, length, map, filter, if◌then◌else◌}
use Rattle.mq_base.specs.declared.ids.TableId.{TableId}
use Rattle.mq_base.specs.declared.plan.PlanNode.{PlanNode}
use Rattle.mq_base.specs.declared.plan.PlanOp.{PlanOp}
use Rattle.mq_base.specs.declared.plan.PlanOp.TheVariants as op
use Rattle.mq_base.specs.declared.query.Cond.{Cond}
use Rattle.mq_base.specs.declared.query.Query.{Query}
use Rattle.mq_base.specs.declared.schema.Schema.{Schema}
use Rattle.mq_base.specs.Nodes.{joins}
use Rattle.plan_algebra.specs.Nodes.{leaf_node, one_node, two_node}
use Rattle.plan_algebra.specs.Plan.{grouping, is_about, join_by, projection, selection, used_of}

-- a node on the last one
abbrev pub over_last : PlanOp → List PlanNode → List PlanNode
over_last op nodes = nodes ++ one_node op (length nodes - 1) ∷ []

-- a node on the last one, where it is wanted
abbrev pub over_if : Bool → PlanOp → List PlanNode → List PlanNode
over_if wanted op nodes = if wanted then over_last op nodes else nodes

-- nodes one after the other, each on the one before it
abbrev pub over_all : List PlanOp → List PlanNode → List PlanNode
over_all [] nodes = nodes
over_all (first ∷ rest) nodes = over_all rest (over_last first nodes)

-- a selection for each of the conditions that pass a test
abbrev pub over_kept : (Cond → Bool) → List Cond → List PlanNode → List PlanNode
over_kept test conds nodes = over_all (map selection (filter test conds)) nodes

-- a node on the node of this number and the last one
abbrev pub beside_last : PlanOp → ℕ → List PlanNode → List PlanNode
beside_last op left nodes = nodes ++ two_node op left (length nodes - 1) ∷ []

-- the branch of a table
abbrev pub branch_on : Schema → Query → TableId → List PlanNode → List PlanNode
branch_on schema q t nodes = over_kept (is_about schema t) q.conds (nodes ++ leaf_node t (used_of schema q t) ∷ [])

-- a join or product of the node of this number and the last one, and the selections over it
abbrev pub attached_on : Schema → TableId → List Cond → ℕ → List PlanNode → List PlanNode
attached_on schema t [] left nodes = beside_last op.Product left nodes
attached_on schema t (first ∷ rest) left nodes = over_all (map selection rest) (beside_last (join_by schema t first) left nodes)

-- a further table
abbrev pub table_on : Schema → Query → List TableId → TableId → List PlanNode → List PlanNode
table_on schema q earlier t nodes =
    attached_on schema t (filter (joins schema earlier t) q.conds) (length nodes - 1) (branch_on schema q t nodes)

-- further tables in turn
abbrev pub tables_after : Schema → Query → List TableId → List TableId → List PlanNode → List PlanNode
tables_after schema q earlier [] nodes = nodes
tables_after schema q earlier (t ∷ rest) nodes = tables_after schema q (earlier ++ t ∷ []) rest (table_on schema q earlier t nodes)

-- all tables
abbrev pub tables_on : Schema → Query → List TableId → List PlanNode
tables_on schema q [] = leaf_node (record { 0 = 0 }) (record { 0 = 0 }) ∷ []
tables_on schema q (first ∷ rest) = tables_after schema q (first ∷ []) rest (branch_on schema q first [])

-- the whole plan
abbrev pub plan_nodes : Schema → Query → List PlanNode
plan_nodes schema q = over_all (grouping q ++ projection q) (tables_on schema q q.tables)
