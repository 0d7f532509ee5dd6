-- The cells of a table: which states it has, each with its label and way. docs/MODEL.md, "Search", tells it in prose.
use Rattle.std.specs.Prelude.{◌≡◌, ℕ, ◌≤◌, List, Option, Some, slice_index_or}
use Rattle.std.specs.Map.{lookup}
use Rattle.extended_plan.specs.declared.state.State.{State}
use Rattle.extended_plan.specs.States.{state_eq}
use Rattle.assign_table.specs.declared.cell.Cell.{Cell}

-- the state at a place among states, where there is one
abbrev pub state_at : List State → ℕ → State
state_at states place = slice_index_or states place (record {
  holder = record { 0 = 0 };
  view = record { enc = record { 0 = 0 }; ip = record { 0 = 0 }; ie = record { 0 = 0 } };
})

-- the cell of a state, where there is one
abbrev pub cell_of : List (State × Cell) → State → Option Cell
cell_of cells st = lookup (state_eq st) cells

-- a state has a label of at most so much among cells
pub record IsListedOn (cells : List (State × Cell)) (st : State) (most : ℕ) : Type 0 where
  pub cell : Cell
  pub listed : cell_of cells st ≡ Some cell
  pub enough : cell.label ≤ most
