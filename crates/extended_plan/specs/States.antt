-- The state and the cost of an extended plan, which states are reached at a node, and at what least cost. docs/MODEL.md, "States",
-- tells it in prose.
use Rattle.std.specs.Prelude.{◌≡◌, ℕ, ◌+◌, ◌≤◌, ◌<◌, ◌==◌, ◌&&◌, Bool, List, length, All}
use Rattle.std.specs.List.{IsDistinct}
use Rattle.std.specs.Option.{option_map_or}
use Rattle.mq_base.specs.declared.plan.Step.{Step}
use Rattle.mq_base.specs.declared.plan.Step.TheVariants as step
use Rattle.cost_model.specs.Costs.{step_work}
use Rattle.relation_profile.specs.View.{view_of}
use Rattle.extended_plan.specs.declared.state.State.{State}
use Rattle.extended_plan.specs.Setting.{Setting}
use Rattle.extended_plan.specs.Term.{Term, Leaf, Enc, Dec, Send, Un, Bin, holder, node_of}
use Rattle.extended_plan.specs.Validity.{StandsAt, profile}

-- the state of a term: who holds its table, and the view of its profile
abbrev pub state : Setting → Term → State
state s x = record { holder = holder s x; view = view_of (profile s x) }

-- what a step costs that is taken on a term's table: an encryption, a decryption, a send
abbrev pub work_on : Setting → Step → Term → ℕ
work_on s step x = option_map_or (λ n. step_work s.basis step (holder s x).0 n (view_of (profile s x))) (node_of s x) 0

-- the cost of a term: the sum of what its steps cost, without bound
abbrev pub cost : Setting → Term → ℕ
cost s (Leaf t) = 0
cost s (Enc a x) = cost s x + work_on s (step.Enc a) x
cost s (Dec a x) = cost s x + work_on s (step.Dec a) x
cost s (Send to x) = cost s x + work_on s (step.Send to) x
cost s (Un n x) = cost s x + step_work s.basis (step.Un n) (holder s x).0 n.0 (view_of (profile s x))
cost s (Bin n x y) = cost s x + cost s y + step_work s.basis (step.Bin n) (holder s x).0 n.0 (view_of (profile s x))

-- a term that stands at a node and has this state
pub record Reaches (s : Setting) (n : ℕ) (st : State) (x : Term) : Type 0 where
  pub stands : StandsAt s n x
  pub arrives : state s x ≡ st

-- a state is reached at a node where some term reaches it
pub record IsReached (s : Setting) (n : ℕ) (st : State) : Type 0 where
  pub term : Term
  pub reaches : Reaches s n st term

-- the least cost of a state at a node: that of some term that reaches it, and no such term costs less
pub record IsLeast (s : Setting) (n : ℕ) (st : State) (least : ℕ) : Type 0 where
  pub term : Term
  pub reaches : Reaches s n st term
  pub costs : cost s term ≡ least
  pub lowest : (x : Term) → Reaches s n st x → least ≤ cost s x

-- a node with a state
pub record Spot : Type 0 where
  pub node : ℕ
  pub state : State

-- whether two states, or two spots, are one
abbrev pub state_eq : State → State → Bool
state_eq s t = (s.holder.0 == t.holder.0) && ((s.view.enc.0 == t.view.enc.0) && ((s.view.ip.0 == t.view.ip.0) && (s.view.ie.0 == t.view.ie.0)))

abbrev pub spot_eq : Spot → Spot → Bool
spot_eq p q = (p.node == q.node) && state_eq p.state q.state

-- a state that is reached at a node, which is no later one than this
pub record IsSpotOf (s : Setting) (last : ℕ) (spot : Spot) : Type 0 where
  pub early : spot.node ≤ last
  pub reached : IsReached s spot.node spot.state

-- more than so many different states are reached at the nodes up to this one
pub record HasMoreThan (most : ℕ) (s : Setting) (last : ℕ) : Type 0 where
  pub spots : List Spot
  pub more : most < length spots
  pub differ : IsDistinct spot_eq spots
  pub reached : All (IsSpotOf s last) spots

-- too many states are reached up to a node: more than 200,000
abbrev pub HasTooMany : Setting → ℕ → Type 0
HasTooMany s last = HasMoreThan 200000 s last

-- the first node up to which too many states are reached
pub record IsFirstTooMany (s : Setting) (n : ℕ) : Type 0 where
  pub many : HasTooMany s n
  pub first : (m : ℕ) → m < n → HasTooMany s m → ⊥
