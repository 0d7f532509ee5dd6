-- The arena of settled states, cut up into blocks: one for each node, in the order of nodes.
use Rattle.std.specs.Prelude.{◌≡◌, ℕ, ◌+◌, ◌≤◌, ◌<◌, true, false, List, length, map, Option, Some, None, IfSome, slice_index_or, slice_range, nat_lt, if◌then◌else◌}
use Rattle.std.specs.List.Sorted.{IsPermutation}
use Rattle.mq_base.specs.declared.ids.AttrId.{AttrId}
use Rattle.mq_base.specs.declared.ids.SubjectId.{SubjectId}
use Rattle.mq_base.specs.declared.ids.TableId.{TableId}
use Rattle.cost_model.specs.Costs.{cut}
use Rattle.plan_algebra.specs.declared.kind.Kind.{Kind}
use Rattle.plan_algebra.specs.declared.kind.Kind.TheVariants as kind
use Rattle.assign_table.specs.declared.way.Settled.{Settled}
use Rattle.extended_plan.specs.Spans.{first_of}
use Rattle.assign_table.specs.inside.Ways.{IsAttained, settled_at}
use Rattle.extended_plan.specs.declared.state.Entry.{Entry}
use Rattle.extended_plan.specs.declared.state.State.{State}
use Rattle.extended_plan.specs.Certificate.{IsAscending, entries_at, is_goal}
use Rattle.extended_plan.specs.Gains.{Gain, dec_gain, enc_gain, leaf_gain, one_gain, send_gain, two_gain}
use Rattle.extended_plan.specs.Setting.{Setting, kind_at, leaf_of, root}
use Rattle.extended_plan.specs.States.{Spot, state_eq}

-- where the block of node n begins; that of the node after it begins where it ends
abbrev pub start_of : List ℕ → ℕ → ℕ
start_of starts n = slice_index_or starts n 0

-- the blocks of the nodes below n make up the arena, one behind the other
pub record AreBlocks (arena : List Settled) (starts : List ℕ) (n : ℕ) : Type 0 where
  pub each : length starts ≡ n + 1
  pub begin : start_of starts 0 ≡ 0
  pub rise : (m : ℕ) → m < n → start_of starts m ≤ start_of starts (m + 1)
  pub end : start_of starts n ≡ length arena

-- a place stands from one place up to another
pub record IsFrom (from to place : ℕ) : Type 0 where
  pub low : from ≤ place
  pub high : place < to

-- a state is settled between two places, with a label of at most so much
pub record IsSettled (arena : List Settled) (from to : ℕ) (st : State) (most : ℕ) : Type 0 where
  pub place : ℕ
  pub inside : IsFrom from to place
  pub same : (settled_at arena place).state ≡ st
  pub enough : (settled_at arena place).label ≤ most

-- the same in the block of a node
abbrev pub IsSettledAt : List Settled → List ℕ → ℕ → State → ℕ → Type 0
IsSettledAt arena starts n st most = IsSettled arena (start_of starts n) (start_of starts (n + 1)) st most

-- what is gained from settled states is settled in the block of a node, with a label of at most their sum and the step's cost, cut
abbrev pub IsGainSettled : List Settled → List ℕ → ℕ → ℕ → Gain → Type 0
IsGainSettled arena starts n sum gain = IsSettledAt arena starts n gain.state (cut (sum + gain.cost))

-- a place in the block of a node
abbrev pub IsPlaceOf : List ℕ → ℕ → ℕ → Type 0
IsPlaceOf starts n place = IsFrom (start_of starts n) (start_of starts (n + 1)) place

-- what arrives at a node is settled there: the leaf's state with the label 0, or what the node's operation gains
abbrev pub IsArrived : Setting → List Settled → List ℕ → ℕ → Kind → Type 0
IsArrived s arena starts n kind.Leaf =
    (t : TableId) → leaf_of s t ≡ Some n → IfSome (leaf_gain s t) (λ st. IsSettledAt arena starts n st 0)
IsArrived s arena starts n (kind.One x) =
    (w : ℕ) → IsPlaceOf starts x.0 w
    → IfSome (one_gain s (record { 0 = n }) (settled_at arena w).state) (IsGainSettled arena starts n (settled_at arena w).label)
IsArrived s arena starts n (kind.Two x y) =
    (v w : ℕ) → IsPlaceOf starts x.0 v → IsPlaceOf starts y.0 w
    → IfSome (two_gain s (record { 0 = n }) (settled_at arena v).state (settled_at arena w).state)
    (IsGainSettled arena starts n ((settled_at arena v).label + (settled_at arena w).label))

-- the block of a node is closed: what arrives is settled, and what one encryption, decryption or send gains from what is settled
pub record IsBlockClosed (s : Setting) (arena : List Settled) (starts : List ℕ) (n : ℕ) : Type 0 where
  pub enc : (w : ℕ) (a : AttrId) → IsPlaceOf starts n w
      → IfSome (enc_gain s n a (settled_at arena w).state) (IsGainSettled arena starts n (settled_at arena w).label)
  pub dec : (w : ℕ) (a : AttrId) → IsPlaceOf starts n w
      → IfSome (dec_gain s n a (settled_at arena w).state) (IsGainSettled arena starts n (settled_at arena w).label)
  pub send : (w : ℕ) (to : SubjectId) → IsPlaceOf starts n w
      → IfSome (send_gain s n to (settled_at arena w).state) (IsGainSettled arena starts n (settled_at arena w).label)
  pub arrived : IsArrived s arena starts n (kind_at s n)

-- the settled state at a place is attained at a node, whose subtree's blocks begin at a place
abbrev pub IsAttainedAt : Setting → List Settled → ℕ → ℕ → ℕ → Type 0
IsAttainedAt s arena n base w =
    IsAttained s arena n base (w + 1) (settled_at arena w).state (settled_at arena w).label (settled_at arena w).way

-- where the blocks of a node's subtree begin
abbrev pub base_of : Setting → List ℕ → ℕ → ℕ
base_of s starts n = start_of starts (first_of s.basis.nodes n)

-- no state is settled twice between two places
abbrev pub AreApart : List Settled → ℕ → ℕ → Type 0
AreApart arena from to =
    (v w : ℕ) → IsFrom from to v → IsFrom from to w → v < w → state_eq (settled_at arena v).state (settled_at arena w).state ≡ false

-- the block of a node: each state is attained there, and stands in it once
pub record IsBlock (s : Setting) (arena : List Settled) (starts : List ℕ) (n : ℕ) : Type 0 where
  pub attained : (w : ℕ) → IsPlaceOf starts n w → IsAttainedAt s arena n (base_of s starts n) w
  pub differ : AreApart arena (start_of starts n) (start_of starts (n + 1))
  pub closed : IsBlockClosed s arena starts n

-- the blocks of the nodes below n are done
pub record AreDone (s : Setting) (arena : List Settled) (starts : List ℕ) (n : ℕ) : Type 0 where
  pub blocks : AreBlocks arena starts n
  pub few : length arena ≤ 200000
  pub block : (m : ℕ) → m < n → IsBlock s arena starts m

-- the entries of the settled states from one place up to another, in their order
abbrev pub entry_of : Settled → Entry
entry_of e = record { state = e.state; label = e.label }

abbrev pub entries_from : List Settled → ℕ → ℕ → List Entry
entries_from arena from to = map entry_of (slice_range arena from to)

-- the spots of the nodes below n, one for each settled state
abbrev pub spot_of : ℕ → Settled → Spot
spot_of n e = record { node = n; state = e.state }

-- the entries of the settled states from one place up to another, in ascending order
pub record AreEntriesOf (arena : List Settled) (from to : ℕ) (entries : List Entry) : Type 0 where
  pub moved : IsPermutation (entries_from arena from to) entries
  pub ascending : IsAscending entries

-- the labels of the blocks of the nodes below n
pub record AreLabelsOf (arena : List Settled) (starts : List ℕ) (n : ℕ) (labels : List (List Entry)) : Type 0 where
  pub each : length labels ≡ n
  pub node : (m : ℕ) → m < n → AreEntriesOf arena (start_of starts m) (start_of starts (m + 1)) (entries_at labels m)

-- the best goal between two places: none where no goal is settled there, and else one whose label is at most that of any
abbrev pub IsGoalAt : Setting → List Settled → ℕ → ℕ → ℕ → Type 0
IsGoalAt s arena from to w = IsFrom from to w × (is_goal s (settled_at arena w).state ≡ true)

abbrev pub IsBestGoal : Setting → List Settled → ℕ → ℕ → Option ℕ → Type 0
IsBestGoal s arena from to None = (v : ℕ) → IsGoalAt s arena from to v → ⊥
IsBestGoal s arena from to (Some w) =
    IsGoalAt s arena from to w × ((v : ℕ) → IsGoalAt s arena from to v → (settled_at arena w).label ≤ (settled_at arena v).label)

-- the best goal in the block of the root
abbrev pub IsBestOf : Setting → List Settled → List ℕ → Option ℕ → Type 0
IsBestOf s arena starts best = IsBestGoal s arena (start_of starts (root s)) (start_of starts (root s + 1)) best

-- the better of a place and the best goal so far
abbrev pub lower_of : List Settled → ℕ → Option ℕ → Option ℕ
lower_of arena at None = Some at
lower_of arena at (Some w) = if nat_lt (settled_at arena at).label (settled_at arena w).label then Some at else Some w

abbrev pub better_of : Setting → List Settled → ℕ → Option ℕ → Option ℕ
better_of s arena at best = if is_goal s (settled_at arena at).state then lower_of arena at best else best
