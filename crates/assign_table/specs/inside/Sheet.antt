-- The table of a node as its calls see it: which states it has, with label and way, and which of them wait. docs/MODEL.md, "Search",
-- tells it in prose.
use Rattle.std.specs.Prelude.{◌≡◌, ℕ, ◌+◌, ◌≤◌, ◌<◌, ◌==◌, ◌&&◌, Bool, true, false, List, [], ◌∷◌, length, map, Option, Some, None, nat_lt, if◌then◌else◌}
use Rattle.std.specs.BinaryHeap.{IsHeap, KeepsHeap, heap_items}
use Rattle.std.specs.List.{IsDistinct, count_by}
use Rattle.std.specs.List.Sorted.{IsPermutation}
use Rattle.std.specs.Map.{keys_of}
use Rattle.std.specs.Ordering.{nat_cmp}
use Rattle.std.specs.declared.cmp.Ordering.{Ordering}
use Rattle.std.specs.declared.cmp.Reverse.{Reverse}
use Rattle.indexmap.specs.IndexMap.{insert_entry}
use Rattle.extended_plan.specs.declared.state.State.{State}
use Rattle.extended_plan.specs.States.{state_eq}
use Rattle.assign_table.specs.declared.cell.Cell.{Cell}
use Rattle.assign_table.specs.declared.table.Table.{Table}
use Rattle.assign_table.specs.declared.cell.Waiting.{Waiting}
use Rattle.assign_table.specs.declared.way.Settled.{Settled}
use Rattle.assign_table.specs.declared.way.Way.{Way}
use Rattle.assign_table.specs.inside.Cells.{cell_of, state_at}

-- a state that waits, with the label that it had when it began to wait
pub record Waits : Type 0 where
  pub label : ℕ
  pub state : State

-- the cells of a table, each with its state, and what waits, in no order
pub record Sheet : Type 0 where
  pub cells : List (State × Cell)
  pub queue : List Waits

-- what waits, where it tells its state by the place among these
abbrev pub waits_at : List State → Reverse Waiting → Waits
waits_at states waiting = record { label = waiting.0.label; state = state_at states waiting.0.place }

abbrev pub sheet_of : Table → Sheet
sheet_of table =
    record { cells = table.cells.entries; queue = map (waits_at (keys_of table.cells.entries)) (heap_items table.queue) }

-- whether what waits is this state with this label, and how many times it does
abbrev pub is_waiting : State → ℕ → Waits → Bool
is_waiting st label waits = state_eq st waits.state && (label == waits.label)

unfoldable pub times : State → ℕ → List Waits → ℕ
times st label queue = count_by (is_waiting st label) queue

-- the order of what waits, which has the least label last
abbrev pub waiting_cmp : Waits → Waits → Ordering
waiting_cmp x y = nat_cmp y.label x.label

-- whether a label is lower than that of a cell; any is lower than none
abbrev pub is_lower : ℕ → Option Cell → Bool
is_lower label None = true
is_lower label (Some cell) = nat_lt label cell.label

-- nothing is written on the sheet
pub record IsBlank (sheet : Sheet) : Type 0 where
  pub cells : sheet.cells ≡ []
  pub queue : sheet.queue ≡ []
  pub heap : IsHeap waiting_cmp sheet.queue

-- a state was given a label and a way, and waits
pub record IsWritten (old : Sheet) (st : State) (label : ℕ) (way : Way) (new : Sheet) : Type 0 where
  pub cells : new.cells ≡ insert_entry state_eq old.cells st (record { label = label; way = way })
  pub queue : IsPermutation (record { label = label; state = st } ∷ old.queue) new.queue
  pub heap : KeepsHeap waiting_cmp old.queue new.queue
  pub distinct : IsDistinct state_eq (keys_of new.cells)

-- a state with a label and a way was offered: it was written where that lowers its label, and else nothing was
pub record IsOffered (old : Sheet) (st : State) (label : ℕ) (way : Way) (new : Sheet) : Type 0 where
  pub written : is_lower label (cell_of old.cells st) ≡ true → IsWritten old st label way new
  pub passed : is_lower label (cell_of old.cells st) ≡ false → new ≡ old

-- a new state was refused by a table that has as many as it may
pub record IsRefused (room : ℕ) (sheet : Sheet) (st : State) : Type 0 where
  pub new : cell_of sheet.cells st ≡ None
  pub full : room ≤ length sheet.cells

-- a cell's settled state, where what waited has its label
abbrev pub fresh_of : Waits → Option Cell → Option Settled
fresh_of waits None = None
fresh_of waits (Some cell) =
    if cell.label == waits.label then Some (record { state = waits.state; label = cell.label; way = cell.way }) else None

-- no cell waits, and the cells are the old ones
pub record IsDrained (old new : Sheet) : Type 0 where
  pub cells : new.cells ≡ old.cells
  pub none : (st : State) (cell : Cell) → cell_of old.cells st ≡ Some cell → times st cell.label old.queue ≡ 0
  pub queue : new.queue ≡ []

-- 1 where a settled state is this state with this label, and else 0
abbrev pub is_this : Settled → State → ℕ → ℕ
is_this e st label = if state_eq st e.state && (label == e.label) then 1 else 0

-- a cell that waited was taken from what waits, and with it at most what is stale; nothing that is left waits with a lower label
pub record IsTaken (old : Sheet) (e : Settled) (new : Sheet) : Type 0 where
  pub cells : new.cells ≡ old.cells
  pub listed : cell_of old.cells e.state ≡ Some (record { label = e.label; way = e.way })
  pub waited : 0 < times e.state e.label old.queue
  pub fewer : (st : State) (label : ℕ) → times st label new.queue ≤ times st label old.queue
  pub kept : (st : State) (cell : Cell) → cell_of old.cells st ≡ Some cell
      → times st cell.label old.queue ≡ times st cell.label new.queue + is_this e st cell.label
  pub least : IsHeap waiting_cmp old.queue → (st : State) (label : ℕ) → 0 < times st label new.queue → e.label ≤ label
  pub heap : KeepsHeap waiting_cmp old.queue new.queue

-- at most what is stale was dropped from what waits
pub record IsSifted (old new : Sheet) : Type 0 where
  pub cells : new.cells ≡ old.cells
  pub fewer : (st : State) (label : ℕ) → times st label new.queue ≤ times st label old.queue
  pub kept : (st : State) (cell : Cell) → cell_of old.cells st ≡ Some cell → times st cell.label old.queue ≡ times st cell.label new.queue
  pub heap : KeepsHeap waiting_cmp old.queue new.queue
