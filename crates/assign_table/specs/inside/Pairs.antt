-- The classes of the operands' states at a node with two: only pairs within one class can gain anything.
use Rattle.std.specs.Prelude.{ℕ, ◌==◌, ◌&&◌, Bool, false, not, Option, Some, None, if◌then◌else◌}
use Rattle.base_laws.specs.Sets.{has}
use Rattle.mq_base.specs.declared.ids.AttrId.{AttrId}
use Rattle.mq_base.specs.declared.plan.PlanOp.{PlanOp}
use Rattle.mq_base.specs.declared.plan.PlanOp.TheVariants as op
use Rattle.extended_plan.specs.declared.state.State.{State}

-- the attribute that an operation compares in its left operand, and in its right one
abbrev pub compared_left : PlanOp → Option AttrId
compared_left (op.Join a cmp b) = Some a
compared_left _ = None

abbrev pub compared_right : PlanOp → Option AttrId
compared_right (op.Join a cmp b) = Some b
compared_right _ = None

-- whether an attribute is encrypted in a state, where there is one
abbrev pub is_sealed : Option AttrId → State → Bool
is_sealed (Some a) st = has st.view.enc.0 a.0
is_sealed None st = false

-- whether two answers are one
abbrev pub is_same : Bool → Bool → Bool
is_same x y = if x then y else not y

-- whether a state is in the class of a holder and of whether the compared attribute is encrypted
abbrev pub is_in : Option AttrId → ℕ → Bool → State → Bool
is_in compared holder sealed st = (st.holder.0 == holder) && is_same sealed (is_sealed compared st)
