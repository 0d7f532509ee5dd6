-- One step on states: what a holder has after it, where the step is runnable and the new holder may hold the result, and what it costs.
-- The state decides, whichever term has it. docs/MODEL.md, "States", tells it in prose.
use Rattle.std.specs.Prelude.{ℕ, ◌^◌, ◌==◌, Option, Some, None, bit_and, bit_xor, if◌then◌else◌}
use Rattle.base_laws.specs.Sets.{has}
use Rattle.mq_base.specs.declared.ids.AttrId.{AttrId}
use Rattle.mq_base.specs.declared.ids.SubjectId.{SubjectId}
use Rattle.mq_base.specs.declared.ids.TableId.{TableId}
use Rattle.mq_base.specs.declared.ids.NodeId.{NodeId}
use Rattle.mq_base.specs.declared.plan.PlanOp.{PlanOp}
use Rattle.mq_base.specs.declared.plan.Step.{Step}
use Rattle.mq_base.specs.declared.plan.Step.TheVariants as step
use Rattle.cost_model.specs.Costs.{sealing, step_work}
use Rattle.plan_algebra.specs.declared.kind.Kind.{Kind}
use Rattle.plan_algebra.specs.declared.kind.Kind.TheVariants as kind
use Rattle.policy_base.specs.Accepted.{plain_of}
use Rattle.relation_profile.specs.Profile.{Profile}
use Rattle.relation_profile.specs.Runnable.{run_dec, run_enc, run_one, run_two}
use Rattle.relation_profile.specs.View.{profile_of, view_of}
use Rattle.extended_plan.specs.declared.state.State.{State}
use Rattle.extended_plan.specs.Setting.{Setting, kind_at, known_at, op_at, schemes}
use Rattle.extended_plan.specs.States.{state}
use Rattle.extended_plan.specs.Term.{Leaf}
use Rattle.extended_plan.specs.Validity.{may_get, may_hold, is_held}

-- a state and the cost of the step to it, without bound
pub record Gain : Type 0 where
  pub state : State
  pub cost : ℕ

-- the profile for which a state stands at a node
abbrev pub shown : Setting → ℕ → State → Profile
shown s n st = profile_of (known_at s n) st.view

-- what a holder gains by a step to a profile, where there is one that it may hold
abbrev pub held : Setting → SubjectId → Option Profile → ℕ → Option Gain
held s holder None cost = None
held s holder (Some p) cost =
    if may_hold s holder p then Some (record { state = record { holder = holder; view = view_of p }; cost = cost }) else None

-- the state of a leaf, where its store may hold it
abbrev pub leaf_gain : Setting → TableId → Option State
leaf_gain s t = if is_held s (Leaf t) then Some (state s (Leaf t)) else None

-- an encryption, a decryption or a send of a table in this state at node n
abbrev pub enc_gain : Setting → ℕ → AttrId → State → Option Gain
enc_gain s n a st = held s st.holder (run_enc a.0 (shown s n st)) (step_work s.basis (step.Enc a) st.holder.0 n st.view)

abbrev pub dec_gain : Setting → ℕ → AttrId → State → Option Gain
dec_gain s n a st = held s st.holder (run_dec a.0 (shown s n st)) (step_work s.basis (step.Dec a) st.holder.0 n st.view)

-- the attributes of the table of node n that a subject sees plain: in a state that it may hold, each of them can be crossed, by its
-- decryption where it is encrypted, and else by its encryption
abbrev pub crossable : Setting → ℕ → SubjectId → ℕ
crossable s n holder = bit_and (known_at s n).visible.0 (plain_of s.policy holder.0)

-- the state across an attribute, which is encrypted in it where it is not in this one, and else not
abbrev pub across : ℕ → State → State
across a st = record {
  holder = st.holder;
  view = record { enc = record { 0 = bit_xor st.view.enc.0 (2 ^ a) }; ip = st.view.ip; ie = st.view.ie };
}

-- what is gained across an attribute
abbrev pub cross_gain : Setting → ℕ → AttrId → State → Option Gain
cross_gain s n a st =
    if has (crossable s n st.holder) a.0 then Some (record { state = across a.0 st; cost = sealing s.basis a.0 st.holder.0 n }) else None

abbrev pub send_gain : Setting → ℕ → SubjectId → State → Option Gain
send_gain s n to st =
    if may_get s st.holder to then held s to (Some (shown s n st)) (step_work s.basis (step.Send to) st.holder.0 n st.view) else None

-- the operation of node n on an operand in this state
abbrev pub one_profile : Setting → PlanOp → Kind → State → Option Profile
one_profile s op (kind.One x) st = run_one (schemes s) op (shown s x.0 st)
one_profile s op _ st = None

abbrev pub one_gain : Setting → NodeId → State → Option Gain
one_gain s n st =
    held s st.holder (one_profile s (op_at s n.0) (kind_at s n.0) st) (step_work s.basis (step.Un n) st.holder.0 n.0 st.view)

-- the operation of node n on two operands in these states, which one subject holds
abbrev pub two_profile : Setting → PlanOp → Kind → State → State → Option Profile
two_profile s op (kind.Two x y) left right = run_two (schemes s) op (shown s x.0 left) (shown s y.0 right)
two_profile s op _ left right = None

abbrev pub two_gain : Setting → NodeId → State → State → Option Gain
two_gain s n left right =
    if left.holder.0 == right.holder.0
    then held s left.holder (two_profile s (op_at s n.0) (kind_at s n.0) left right) (step_work s.basis (step.Bin n) left.holder.0 n.0 left.view)
    else None

-- a step whose result is at node n, on one state or on two; a leaf stands on none
abbrev pub step_gain : Setting → NodeId → Step → State → Option State → Option Gain
step_gain s n (step.Enc a) st None = enc_gain s n.0 a st
step_gain s n (step.Dec a) st None = dec_gain s n.0 a st
step_gain s n (step.Send to) st None = send_gain s n.0 to st
step_gain s n (step.Un m) st None = one_gain s n st
step_gain s n (step.Bin m) st (Some other) = two_gain s n st other
step_gain s n _ st other = None
