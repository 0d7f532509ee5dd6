-- The order in which the states of a node are settled: what is settled has a label of at most the front, what waits one of at least
-- that, and so a settled state is never changed and never waits again. docs/MODEL.md, "Search", tells it in prose.
use Rattle.std.specs.Prelude.{◌≡◌, ℕ, ◌≤◌, ◌<◌, List, length, map, drop, Some, slice_get}
use Rattle.std.specs.BinaryHeap.{IsHeap}
use Rattle.std.specs.List.{IsDistinct}
use Rattle.extended_plan.specs.declared.state.State.{State}
use Rattle.extended_plan.specs.States.{state_eq}
use Rattle.assign_table.specs.declared.cell.Cell.{Cell}
use Rattle.assign_table.specs.declared.way.Settled.{Settled}
use Rattle.assign_table.specs.inside.Cells.{IsListedOn, cell_of}
use Rattle.assign_table.specs.inside.Sheet.{Sheet, times, waiting_cmp}

-- a settled state is as its cell, does not wait, and has a label of at most the front
pub record IsAtRest (sheet : Sheet) (front : ℕ) (e : Settled) : Type 0 where
  pub listed : cell_of sheet.cells e.state ≡ Some (record { label = e.label; way = e.way })
  pub still : times e.state e.label sheet.queue ≡ 0
  pub low : e.label ≤ front

-- a state is settled at a place of the arena from which on a node's block stands
pub record IsSettledFrom (from : ℕ) (arena : List Settled) (e : Settled) : Type 0 where
  pub place : ℕ
  pub after : from ≤ place
  pub there : slice_get arena place ≡ Some e

-- the states of settled ones
abbrev pub states_of : List Settled → List State
states_of settled = map (λ (e : Settled). e.state) settled

-- what is settled is at rest, and settled once; a cell that does not wait is settled; what waits has a label of at least the front
-- and of at least its cell's, and nothing waits twice with one label
pub record IsOrdered (from : ℕ) (arena : List Settled) (sheet : Sheet) (front : ℕ) : Type 0 where
  pub start : from ≤ length arena
  pub rests : (place : ℕ) (e : Settled) → from ≤ place → slice_get arena place ≡ Some e → IsAtRest sheet front e
  pub differ : IsDistinct state_eq (states_of (drop from arena))
  pub settled : (st : State) (cell : Cell) → cell_of sheet.cells st ≡ Some cell → times st cell.label sheet.queue ≡ 0
      → IsSettledFrom from arena (record { state = st; label = cell.label; way = cell.way })
  pub behind : (st : State) (label : ℕ) → 0 < times st label sheet.queue → IsListedOn sheet.cells st label
  pub high : (st : State) (label : ℕ) → 0 < times st label sheet.queue → front ≤ label
  pub once : (st : State) (label : ℕ) → times st label sheet.queue ≤ 1
  pub heap : IsHeap waiting_cmp sheet.queue
