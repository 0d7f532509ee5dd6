-- What the engine's steps ask, and what they tell of the tables that they make. Only the calls of a run speak of these.
use Rattle.std.specs.Prelude.{◌≡◌, ℕ, List, map, Some, IsSome}
use Rattle.column_table.specs.Cells.{cell_tests}
use Rattle.extended_plan.specs.Setting.{Setting, leaf_of, op_at}
use Rattle.extended_plan.specs.States.{state}
use Rattle.extended_plan.specs.Term.{Leaf}
use Rattle.extended_plan.specs.Validity.{used_at}
use Rattle.mq_base.specs.Schema.{IsSchema}
use Rattle.mq_base.specs.Table.{HasForm}
use Rattle.mq_base.specs.declared.ids.NodeId.{NodeId}
use Rattle.mq_base.specs.declared.plan.Step.{Step}
use Rattle.mq_base.specs.declared.table.PlainTable.{PlainTable}
use Rattle.plan_algebra.specs.Tree.{apply_two}
use Rattle.provider_engine.specs.declared.held.Held.{Held}
use Rattle.provider_engine.specs.Held.{node_of, state_of, table_of}
use Rattle.provider_engine.specs.OfJob.{IsOfJob, IsOpenedBy}
use Rattle.provider_engine.specs.Opening.{seals_of}
use Rattle.provider_engine.specs.Run.{plain_row, sealed_rows}
use Rattle.provider_engine.specs.Steps.{IsRunnableOnTwo, node_after, rows_after, state_after, state_after_two}
use Rattle.row_algebra.specs.Contents.{table_rows}
use Rattle.row_algebra.specs.Rows.{cut}

-- the leaf of a table can be made
pub record IsReadyForLeaf (s : Setting) (table : PlainTable) : Type 0 where
  pub leaf : IsSome (leaf_of s table.table)
  pub schema : IsSchema s.policy.schema
  pub form : HasForm s.policy.schema table

-- what is told of the leaf that was made
pub record IsMadeOfLeaf (s : Setting) (keys : List (List ℕ)) (place : ℕ) (table : PlainTable) (made : Held) : Type 0 where
  pub node : leaf_of s table.table ≡ Some (node_of made).0
  pub state : state_of made ≡ state s (Leaf table.table)
  pub rows : table_of made ≡ sealed_rows (seals_of s.basis.clusters keys) s.policy.rest.0 place
      (map (λ r. plain_row (cut (used_at s table.table) r)) (table_rows s.policy.schema table))
  pub of_job : IsOfJob s made
  pub opened : IsOpenedBy s keys made

-- what is told of the table that a step on one table made
pub record IsMadeOnOne (s : Setting) (keys : List (List ℕ)) (taking : Step) (place : ℕ) (held made : Held) : Type 0 where
  pub node : node_of made ≡ node_after taking (node_of held)
  pub state : state_after s (node_of held) taking (state_of held) ≡ Some (state_of made)
  pub rows : table_of made ≡ rows_after s (seals_of s.basis.clusters keys) place taking (table_of held)
  pub of_job : IsOfJob s made
  pub opened : IsOpenedBy s keys made

-- the operation of a node is runnable on two tables of the job
pub record IsReadyForTwo (s : Setting) (n : NodeId) (left right : Held) : Type 0 where
  pub left_of_job : IsOfJob s left
  pub right_of_job : IsOfJob s right
  pub runnable : IsRunnableOnTwo s n left right

-- what is told of the table that the operation of a node made of two tables
pub record IsMadeOnTwo (s : Setting) (keys : List (List ℕ)) (n : NodeId) (left right made : Held) : Type 0 where
  pub node : node_of made ≡ n
  pub state : state_after_two s n (state_of left) (state_of right) ≡ Some (state_of made)
  pub rows : table_of made ≡ apply_two (cell_tests (seals_of s.basis.clusters keys)) (op_at s n.0) (table_of left) (table_of right)
  pub of_job : IsOfJob s made
  pub opened : IsOpenedBy s keys left → IsOpenedBy s keys right → IsOpenedBy s keys made
