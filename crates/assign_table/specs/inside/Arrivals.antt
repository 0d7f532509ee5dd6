-- What arrives at a node from its operands, before any state of the node is settled.
use Rattle.std.specs.Prelude.{◌≡◌, ℕ, ◌+◌, ◌<◌, true, false, Bool, List, length, Option, Some, IfSome}
use Rattle.std.specs.List.{Contains}
use Rattle.mq_base.specs.declared.ids.AttrId.{AttrId}
use Rattle.mq_base.specs.declared.ids.NodeId.{NodeId}
use Rattle.mq_base.specs.declared.ids.TableId.{TableId}
use Rattle.plan_algebra.specs.declared.kind.Kind.{Kind}
use Rattle.plan_algebra.specs.declared.kind.Kind.TheVariants as kind
use Rattle.extended_plan.specs.declared.state.State.{State}
use Rattle.extended_plan.specs.Gains.{Gain, leaf_gain, one_gain, two_gain}
use Rattle.extended_plan.specs.Job.{setting_of}
use Rattle.extended_plan.specs.Setting.{Setting, kind_at, leaf_of, op_at}
use Rattle.assign_table.specs.declared.gate.Gate.{Gate}
use Rattle.assign_table.specs.declared.cell.Cell.{Cell}
use Rattle.assign_table.specs.declared.way.Settled.{Settled}
use Rattle.assign_table.specs.declared.way.Way.{Way}
use Rattle.assign_table.specs.inside.Blocks.{AreDone, IsFrom, IsPlaceOf, base_of, start_of}
use Rattle.assign_table.specs.inside.Crossing.{IsMet}
use Rattle.assign_table.specs.inside.Cells.{IsListedOn}
use Rattle.assign_table.specs.inside.Pairs.{compared_left, compared_right, is_in}
use Rattle.assign_table.specs.inside.Settling.{IsCrowded, IsGainListed, IsGathered}
use Rattle.assign_table.specs.inside.Sheet.{Sheet}
use Rattle.assign_table.specs.inside.Ways.{settled_at}

-- the setting of a gate, where the blocks of its node's subtree begin, and what is settled at a place
abbrev pub gate_setting : Gate → Setting
gate_setting gate = setting_of gate.job.now

abbrev pub gate_base : Gate → ℕ
gate_base gate = base_of (gate_setting gate) gate.starts.now gate.node.0

abbrev pub gate_at : Gate → ℕ → Settled
gate_at gate w = settled_at gate.settled.now w

-- the blocks of the nodes before the gate's node are done
pub record IsGate (gate : Gate) : Type 0 where
  pub node : gate.node.0 < length (gate_setting gate).basis.nodes
  pub done : AreDone (gate_setting gate) gate.settled.now gate.starts.now gate.node.0

-- a table to which states arrive at a node: none is settled, each is attained and one of the node, and there is room for all
abbrev pub IsOpenAt : Gate → ℕ → Sheet → Type 0
IsOpenAt gate room sheet = IsGathered (gate_setting gate) gate.node.0 (gate_base gate) room gate.settled.now sheet

-- it is so after arrivals, and what was listed is, with no higher label
pub record StaysOpen (gate : Gate) (room : ℕ) (old new : Sheet) : Type 0 where
  pub opened : IsOpenAt gate room new
  pub lower : (st : State) (most : ℕ) → IsListedOn old.cells st most → IsListedOn new.cells st most

-- more states than there is room for are reached at the node
abbrev pub IsCrowdedAt : Gate → ℕ → Type 0
IsCrowdedAt gate room = IsCrowded (gate_setting gate) gate.node.0 room

-- a state arrives at the gate's node with a label, in this way
abbrev pub IsArrival : Gate → State → ℕ → Way → Type 0
IsArrival gate st label way =
    IsMet (gate_setting gate) gate.settled.now gate.node.0 (gate_base gate) (length gate.settled.now) (length gate.settled.now) st label way

-- what the gate's node gains from one place, or from two, and that it is listed
abbrev pub one_at : Gate → ℕ → Option Gain
one_at gate w = one_gain (gate_setting gate) gate.node (gate_at gate w).state

abbrev pub IsOneListed : Gate → List (State × Cell) → ℕ → Type 0
IsOneListed gate cells w = IfSome (one_at gate w) (IsGainListed cells (gate_at gate w).label)

abbrev pub two_at : Gate → ℕ → ℕ → Option Gain
two_at gate v w = two_gain (gate_setting gate) gate.node (gate_at gate v).state (gate_at gate w).state

abbrev pub IsPairListed : Gate → List (State × Cell) → ℕ → ℕ → Type 0
IsPairListed gate cells v w = IfSome (two_at gate v w) (IsGainListed cells ((gate_at gate v).label + (gate_at gate w).label))

-- what arrives at the gate's node by its operation is listed
abbrev pub IsArrivedOn : Gate → Kind → List (State × Cell) → Type 0
IsArrivedOn gate kind.Leaf cells =
    (t : TableId) → leaf_of (gate_setting gate) t ≡ Some gate.node.0 → IfSome (leaf_gain (gate_setting gate) t) (λ st. IsListedOn cells st 0)
IsArrivedOn gate (kind.One x) cells = (w : ℕ) → IsPlaceOf gate.starts.now x.0 w → IsOneListed gate cells w
IsArrivedOn gate (kind.Two x y) cells =
    (v w : ℕ) → IsPlaceOf gate.starts.now x.0 v → IsPlaceOf gate.starts.now y.0 w → IsPairListed gate cells v w

-- two places are in the blocks of the node's two operands
pub record IsPairOf (gate : Gate) (v w : ℕ) : Type 0 where
  pub left : NodeId
  pub right : NodeId
  pub kind : kind_at (gate_setting gate) gate.node.0 ≡ kind.Two left right
  pub left_place : IsPlaceOf gate.starts.now left.0 v
  pub right_place : IsPlaceOf gate.starts.now right.0 w

-- the state at a place of the left operand is in a class, and that at a place of the right one
abbrev pub IsLeftIn : Gate → ℕ → Bool → ℕ → Type 0
IsLeftIn gate holder sealed v = is_in (compared_left (op_at (gate_setting gate) gate.node.0)) holder sealed (gate_at gate v).state ≡ true

abbrev pub IsRightIn : Gate → ℕ → Bool → ℕ → Type 0
IsRightIn gate holder sealed w = is_in (compared_right (op_at (gate_setting gate) gate.node.0)) holder sealed (gate_at gate w).state ≡ true

-- the pairs of one class are listed
abbrev pub IsClassListed : Gate → NodeId → NodeId → ℕ → Bool → List (State × Cell) → Type 0
IsClassListed gate left right holder sealed cells =
    (v w : ℕ) → IsPlaceOf gate.starts.now left.0 v → IsPlaceOf gate.starts.now right.0 w → IsLeftIn gate holder sealed v
    → IsRightIn gate holder sealed w → IsPairListed gate cells v w

-- the pairs of one holder are listed: those with the compared attribute plain, and those with it encrypted
pub record IsHolderListed (gate : Gate) (left right : NodeId) (holder : ℕ) (cells : List (State × Cell)) : Type 0 where
  pub plain : IsClassListed gate left right holder false cells
  pub sealed : IsClassListed gate left right holder true cells

-- these are the places from one up to another whose states are in a class
pub record ArePlacesIn (gate : Gate) (compared : Option AttrId) (holder : ℕ) (sealed : Bool) (from to : ℕ) (places : List ℕ) : Type 0 where
  pub each : (w : ℕ) → Contains places w → IsFrom from to w
  pub all : (w : ℕ) → IsFrom from to w → is_in compared holder sealed (gate_at gate w).state ≡ true → Contains places w

-- the same in the block of a node
abbrev pub ArePlacesOf : Gate → NodeId → Option AttrId → ℕ → Bool → List ℕ → Type 0
ArePlacesOf gate node compared holder sealed places =
    ArePlacesIn gate compared holder sealed (start_of gate.starts.now node.0) (start_of gate.starts.now (node.0 + 1)) places

-- each of the first places with each of the others is such a pair, and is listed
abbrev pub ArePairsOf : Gate → List ℕ → List ℕ → Type 0
ArePairsOf gate lefts rights = (v w : ℕ) → Contains lefts v → Contains rights w → IsPairOf gate v w

abbrev pub ArePairsListed : Gate → List (State × Cell) → List ℕ → List ℕ → Type 0
ArePairsListed gate cells lefts rights = (v w : ℕ) → Contains lefts v → Contains rights w → IsPairListed gate cells v w
