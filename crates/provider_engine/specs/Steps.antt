-- What one step makes of the tables that it takes: the case of the encoded run, and the state. docs/MODEL.md, "Encoded run", tells it in
-- prose.
use Rattle.std.specs.Prelude.{◌≡◌, ℕ, ◌^◌, ◌<◌, List, length, map, Option, Some, None, IsSome, option_map, if◌then◌else◌}
use Rattle.column_table.specs.Cells.{Cell, Seals, cell_tests}
use Rattle.extended_plan.specs.declared.state.State.{State}
use Rattle.extended_plan.specs.Gains.{one_profile, shown, two_profile}
use Rattle.extended_plan.specs.Setting.{Setting, kind_at, op_at}
use Rattle.extended_plan.specs.Validity.{may_get}
use Rattle.mq_base.specs.declared.ids.NodeId.{NodeId}
use Rattle.mq_base.specs.declared.ids.SubjectId.{SubjectId}
use Rattle.mq_base.specs.declared.plan.Step.{Step}
use Rattle.mq_base.specs.declared.plan.Step.TheVariants as step
use Rattle.plan_algebra.specs.declared.kind.Kind.TheVariants as kind
use Rattle.plan_algebra.specs.Tree.{apply_one}
use Rattle.provider_engine.specs.declared.held.Held.{Held}
use Rattle.provider_engine.specs.Held.{node_of, state_of}
use Rattle.provider_engine.specs.Run.{opened_row, sealed_rows}
use Rattle.relation_profile.specs.Profile.{Profile}
use Rattle.relation_profile.specs.Runnable.{run_dec, run_enc}
use Rattle.relation_profile.specs.View.{view_of}
use Rattle.row_algebra.specs.Rows.{RowOf}

-- the rows that a step at a place in the list makes of those of one table
abbrev pub rows_after : Setting → Seals → ℕ → Step → List (RowOf Cell) → List (RowOf Cell)
rows_after s seals place (step.Enc a) rows = sealed_rows seals (2 ^ a.0) place rows
rows_after s seals place (step.Dec a) rows = map (opened_row seals (2 ^ a.0)) rows
rows_after s seals place (step.Un n) rows = apply_one (cell_tests seals) (op_at s n.0) rows
rows_after s seals place _ rows = rows

-- the node of its result
abbrev pub node_after : Step → NodeId → NodeId
node_after (step.Un n) from = n
node_after _ from = from

-- the state of a holder with the view of a profile, where there is one
abbrev pub at_holder : SubjectId → Option Profile → Option State
at_holder holder p = option_map (λ (p : Profile). record { holder = holder; view = view_of p }) p

-- the state after a step on one table of a node, where it is runnable
abbrev pub state_after : Setting → NodeId → Step → State → Option State
state_after s from (step.Enc a) st = at_holder st.holder (run_enc a.0 (shown s from.0 st))
state_after s from (step.Dec a) st = at_holder st.holder (run_dec a.0 (shown s from.0 st))
state_after s from (step.Send to) st = if may_get s st.holder to then Some (record { holder = to; view = st.view }) else None
state_after s from (step.Un n) st = at_holder st.holder (one_profile s (op_at s n.0) (kind_at s n.0) st)
state_after s from _ st = None

-- the state after the operation of node n on two tables
abbrev pub state_after_two : Setting → NodeId → State → State → Option State
state_after_two s n left right = at_holder left.holder (two_profile s (op_at s n.0) (kind_at s n.0) left right)

-- the operation of a step stands on the table's node, where the step is one of a node
pub record IsOnOne (s : Setting) (n from : NodeId) : Type 0 where
  pub node : n.0 < length s.basis.nodes
  pub stands : kind_at s n.0 ≡ kind.One from

abbrev pub IsTakenFrom : Setting → Step → NodeId → Type 0
IsTakenFrom s (step.Un n) from = IsOnOne s n from
IsTakenFrom s _ from = Unit {0}

-- a step is runnable on a table
pub record IsRunnableOn (s : Setting) (taken : Step) (held : Held) : Type 0 where
  pub from : IsTakenFrom s taken (node_of held)
  pub runs : IsSome (state_after s (node_of held) taken (state_of held))

-- the operation of node n is runnable on two tables, which one subject holds
pub record IsRunnableOnTwo (s : Setting) (n : NodeId) (left right : Held) : Type 0 where
  pub node : n.0 < length s.basis.nodes
  pub stands : kind_at s n.0 ≡ kind.Two (node_of left) (node_of right)
  pub one_holder : (state_of left).holder ≡ (state_of right).holder
  pub runs : IsSome (state_after_two s n (state_of left) (state_of right))
