-- The states of a node as they are settled: what each of them has, what one turn does, and what stands in the arena at the end.
-- docs/MODEL.md, "Search", tells it in prose.
use Rattle.std.specs.Prelude.{◌≡◌, ℕ, ◌+◌, ◌^◌, ◌≤◌, ◌<◌, Bool, true, false, List, [], ◌∷◌, ◌++◌, length, All, Some, IfSome, slice_get}
use Rattle.std.specs.List.{IsDistinct}
use Rattle.std.specs.Map.{keys_of}
use Rattle.base_laws.specs.Sets.{has}
use Rattle.mq_base.specs.declared.ids.AttrId.{AttrId}
use Rattle.mq_base.specs.declared.ids.SubjectId.{SubjectId}
use Rattle.mq_base.specs.declared.plan.Step.{Step}
use Rattle.mq_base.specs.declared.plan.Step.TheVariants as step
use Rattle.cost_model.specs.Costs.{cut}
use Rattle.extended_plan.specs.declared.state.State.{State}
use Rattle.extended_plan.specs.Gains.{Gain, across, crossable, dec_gain, enc_gain, send_gain}
use Rattle.extended_plan.specs.Job.{IsHeldAt}
use Rattle.extended_plan.specs.Setting.{Setting}
use Rattle.extended_plan.specs.States.{IsReached, state_eq}
use Rattle.assign_table.specs.declared.cell.Cell.{Cell}
use Rattle.assign_table.specs.declared.table.Table.{Table}
use Rattle.assign_table.specs.declared.way.Settled.{Settled}
use Rattle.assign_table.specs.inside.Cells.{IsListedOn, cell_of}
use Rattle.assign_table.specs.inside.Blocks.{AreApart, IsFrom, IsSettled}
use Rattle.assign_table.specs.inside.Crossing.{IsMet, IsTried, crossed_label}
use Rattle.assign_table.specs.inside.Order.{IsOrdered}
use Rattle.assign_table.specs.inside.Sheet.{IsDrained, Sheet, sheet_of}
use Rattle.assign_table.specs.inside.Ways.{IsAttained, settled_at}

-- each cell of a node's table, and each settled state of its block, is attained there, and gained across an attribute there where its
-- way tells so; a state has one cell
pub record AreAttained (s : Setting) (n base from : ℕ) (arena : List Settled) (sheet : Sheet) : Type 0 where
  pub cells : (st : State) (cell : Cell) → cell_of sheet.cells st ≡ Some cell
      → IsMet s arena n base from (length arena) st cell.label cell.way
  pub block : (place : ℕ) (e : Settled) → from ≤ place → slice_get arena place ≡ Some e
      → IsMet s arena n base from place e.state e.label e.way
  pub distinct : IsDistinct state_eq (keys_of sheet.cells)

-- the states of a table are states at the node, for which their holders may hold its table
abbrev pub AreKnown : Setting → ℕ → Sheet → Type 0
AreKnown s n sheet = (st : State) (cell : Cell) → cell_of sheet.cells st ≡ Some cell → IsHeldAt s n st

-- more than so many different states are reached at a node
pub record IsCrowded (s : Setting) (n room : ℕ) : Type 0 where
  pub states : List State
  pub more : room < length states
  pub differ : IsDistinct state_eq states
  pub reached : All (IsReached s n) states

-- what arrived at a node so far, before any of its states is settled: each waits, is attained and a state of the node
pub record IsGathered (s : Setting) (n base room : ℕ) (arena : List Settled) (sheet : Sheet) : Type 0 where
  pub ordered : IsOrdered (length arena) arena sheet 0
  pub attained : AreAttained s n base (length arena) arena sheet
  pub known : AreKnown s n sheet
  pub within : length sheet.cells ≤ room

-- what is gained from a state with this label is listed, with a label of at most its sum with the step's cost, cut
abbrev pub IsGainListed : List (State × Cell) → ℕ → Gain → Type 0
IsGainListed cells label gain = IsListedOn cells gain.state (cut (label + gain.cost))

-- the states across the attributes that are tried from a settled state are listed
abbrev pub AreTried : Setting → ℕ → List (State × Cell) → Settled → Type 0
AreTried s n cells e =
    (a : ℕ) → has (crossable s n e.state.holder) a ≡ true → IsTried e.way a → IsListedOn cells (across a e.state) (crossed_label s n a e)

-- the same but for those that are left
abbrev pub AreTriedBut : Setting → ℕ → List (State × Cell) → Settled → ℕ → Type 0
AreTriedBut s n cells e left =
    (a : ℕ) → has (crossable s n e.state.holder) a ≡ true → IsTried e.way a → has left a ≡ false
    → IsListedOn cells (across a e.state) (crossed_label s n a e)

-- what is tried from a settled state is listed: the states across attributes, and what each send gains
pub record IsClosedOn (s : Setting) (n : ℕ) (cells : List (State × Cell)) (e : Settled) : Type 0 where
  pub tried : AreTried s n cells e
  pub send : (to : SubjectId) → IfSome (send_gain s n to e.state) (IsGainListed cells e.label)

-- a settled state is listed in a table, and its label, a number that a cell can hold, is not above the front
pub record IsFront (table : Table) (e : Settled) : Type 0 where
  pub listed : IsListedOn (sheet_of table).cells e.state e.label
  pub low : e.label ≤ table.front
  pub fits : e.label < 2 ^ 128

-- a step that stays at its node: an encryption, a decryption or a send
abbrev pub Stays : Step → Type 0
Stays (step.Enc a) = Unit {0}
Stays (step.Dec a) = Unit {0}
Stays (step.Send to) = Unit {0}
Stays _ = ⊥

-- the last settled state of an arena
pub record IsLast (arena : List Settled) (at : ℕ) (e : Settled) : Type 0 where
  pub there : slice_get arena at ≡ Some e
  pub last : length arena ≡ at + 1

-- what was gained from the last settled state was offered, or nothing was: so the table is in order as before, what it has is
-- attained and known as before, and all that was listed is, with no higher label
pub record Continues (s : Setting) (n room at : ℕ) (e : Settled) (old new : Sheet) : Type 0 where
  pub ordered : (from : ℕ) (arena : List Settled) → IsOrdered from arena old e.label → IsOrdered from arena new e.label
  pub attained : (base from : ℕ) (arena : List Settled) → IsLast arena at e → from ≤ at → AreAttained s n base from arena old
      → AreAttained s n base from arena new
  pub known : AreKnown s n old → AreKnown s n new
  pub lower : (st : State) (most : ℕ) → IsListedOn old.cells st most → IsListedOn new.cells st most
  pub within : length old.cells ≤ room → length new.cells ≤ room

-- a gain of the last settled state was refused: then too many states are reached
abbrev pub ShowsCrowd : Setting → ℕ → ℕ → ℕ → Settled → Sheet → Type 0
ShowsCrowd s n room at e old =
    (base from : ℕ) (arena : List Settled) → IsLast arena at e → from ≤ at → AreAttained s n base from arena old → IsCrowded s n room

-- a turn: the least that waits was settled, and all that it gains was offered
pub record IsTurned (s : Setting) (n room : ℕ) (arena : List Settled) (old : Sheet) (longer : List Settled) (new : Sheet) : Type 0 where
  pub settled : Settled
  pub pushed : longer ≡ arena ++ settled ∷ []
  pub ordered : (from front : ℕ) → IsOrdered from arena old front → IsOrdered from longer new settled.label
  pub attained : (base from : ℕ) → from ≤ length arena → AreAttained s n base from arena old → AreAttained s n base from longer new
  pub known : AreKnown s n old → AreKnown s n new
  pub lower : (st : State) (most : ℕ) → IsListedOn old.cells st most → IsListedOn new.cells st most
  pub within : length old.cells ≤ room → length new.cells ≤ room
  pub closed : IsClosedOn s n new.cells settled

-- there was a turn, or nothing waits any more
abbrev pub IsTurn : Setting → ℕ → ℕ → Bool → List Settled → Sheet → List Settled → Sheet → Type 0
IsTurn s n room true arena old longer new = IsTurned s n room arena old longer new
IsTurn s n room false arena old longer new = (longer ≡ arena) × IsDrained old new

-- a state was refused: then too many are reached
abbrev pub ShowsCrowdFrom : Setting → ℕ → ℕ → List Settled → Sheet → Type 0
ShowsCrowdFrom s n room arena old = (base from : ℕ) → from ≤ length arena → AreAttained s n base from arena old → IsCrowded s n room

-- the same, from the start of a node on
abbrev pub ShowsCrowdOver : Setting → ℕ → ℕ → List Settled → Sheet → Type 0
ShowsCrowdOver s n room before start = (base : ℕ) → AreAttained s n base (length before) before start → IsCrowded s n room

-- some turns after the start: what the arena has gained is in order and closed, and as attained as the start was
pub record IsUnderway (s : Setting) (n room : ℕ) (before : List Settled) (start : Sheet) (arena : List Settled) (sheet : Sheet) : Type 0 where
  pub block : List Settled
  pub grown : arena ≡ before ++ block
  pub front : ℕ
  pub ordered : IsOrdered (length before) arena sheet front
  pub attained : (base : ℕ) → AreAttained s n base (length before) before start → AreAttained s n base (length before) arena sheet
  pub known : AreKnown s n sheet
  pub lower : (st : State) (most : ℕ) → IsListedOn start.cells st most → IsListedOn sheet.cells st most
  pub within : length sheet.cells ≤ room
  pub closed : (place : ℕ) (e : Settled) → length before ≤ place → slice_get arena place ≡ Some e → IsClosedOn s n sheet.cells e

-- a gain of a settled state is settled in the block from one place up to another, with a label of at most the sum
abbrev pub IsGainIn : List Settled → ℕ → ℕ → ℕ → Gain → Type 0
IsGainIn arena from to label gain = IsSettled arena from to gain.state (cut (label + gain.cost))

-- the states of a node are settled behind what the arena had: at most `room` of them, each once; those of the start with a label of at
-- most theirs, and what sends gain from them; and where the start was attained, each is, and what encryptions and decryptions gain is
-- settled too
pub record IsDone (s : Setting) (n room : ℕ) (before : List Settled) (start : Sheet) (arena : List Settled) : Type 0 where
  pub block : List Settled
  pub grown : arena ≡ before ++ block
  pub few : length block ≤ room
  pub apart : AreApart arena (length before) (length arena)
  pub attained : (base : ℕ) → AreAttained s n base (length before) before start → (w : ℕ) → IsFrom (length before) (length arena) w
      → IsAttained s arena n base (w + 1) (settled_at arena w).state (settled_at arena w).label (settled_at arena w).way
  pub arrived : (st : State) (most : ℕ) → IsListedOn start.cells st most → IsSettled arena (length before) (length arena) st most
  pub enc : (base : ℕ) → AreAttained s n base (length before) before start → (w : ℕ) (a : AttrId) → IsFrom (length before) (length arena) w
      → IfSome (enc_gain s n a (settled_at arena w).state) (IsGainIn arena (length before) (length arena) (settled_at arena w).label)
  pub dec : (base : ℕ) → AreAttained s n base (length before) before start → (w : ℕ) (a : AttrId) → IsFrom (length before) (length arena) w
      → IfSome (dec_gain s n a (settled_at arena w).state) (IsGainIn arena (length before) (length arena) (settled_at arena w).label)
  pub send : (w : ℕ) (to : SubjectId) → IsFrom (length before) (length arena) w
      → IfSome (send_gain s n to (settled_at arena w).state) (IsGainIn arena (length before) (length arena) (settled_at arena w).label)
