-- A step in its two parts: the state after it where it is runnable, and what is gained where the new holder may hold that. Only the
-- calls of steps speak of these; a step is that of Gains.antt.
use Rattle.std.specs.Prelude.{◌==◌, Option, Some, None, if◌then◌else◌, option_map}
use Rattle.mq_base.specs.declared.ids.NodeId.{NodeId}
use Rattle.mq_base.specs.declared.ids.SubjectId.{SubjectId}
use Rattle.mq_base.specs.declared.plan.Step.{Step}
use Rattle.mq_base.specs.declared.plan.Step.TheVariants as step
use Rattle.cost_model.specs.Costs.{step_work}
use Rattle.relation_profile.specs.declared.view.View.{View}
use Rattle.relation_profile.specs.Runnable.{run_dec, run_enc}
use Rattle.relation_profile.specs.View.{view_of}
use Rattle.extended_plan.specs.declared.state.State.{State}
use Rattle.extended_plan.specs.Gains.{Gain, one_profile, shown, two_profile}
use Rattle.extended_plan.specs.Setting.{Setting, kind_at, op_at}
use Rattle.extended_plan.specs.Validity.{may_get, may_hold}

-- the state of a holder with a view, where there is one
abbrev pub at_holder : SubjectId → Option View → Option State
at_holder holder view = option_map (λ v. record { holder = holder; view = v }) view

-- the state after a send
abbrev pub sent : Setting → State → SubjectId → Option State
sent s st to = if may_get s st.holder to then Some (record { holder = to; view = st.view }) else None

-- the state after the operation of node n on operands in these states
abbrev pub joined : Setting → NodeId → State → State → Option State
joined s n left right =
    if left.holder.0 == right.holder.0
    then at_holder left.holder (option_map view_of (two_profile s (op_at s n.0) (kind_at s n.0) left right)) else None

-- the state after a step with its result at node n, where it is runnable
abbrev pub ran : Setting → NodeId → Step → State → Option State → Option State
ran s n (step.Enc a) st None = at_holder st.holder (option_map view_of (run_enc a.0 (shown s n.0 st)))
ran s n (step.Dec a) st None = at_holder st.holder (option_map view_of (run_dec a.0 (shown s n.0 st)))
ran s n (step.Send to) st None = sent s st to
ran s n (step.Un m) st None = at_holder st.holder (option_map view_of (one_profile s (op_at s n.0) (kind_at s n.0) st))
ran s n (step.Bin m) st (Some other) = joined s n st other
ran s n _ st other = None

-- what is gained by a step to a state at node n, which was taken from this one
abbrev pub gained : Setting → NodeId → Step → State → Option State → Option Gain
gained s n step from None = None
gained s n step from (Some new) =
    if may_hold s new.holder (shown s n.0 new)
    then Some (record { state = new; cost = step_work s.basis step from.holder.0 n.0 from.view }) else None
