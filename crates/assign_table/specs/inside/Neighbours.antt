-- Attributes across which a state has a settled neighbour. The step to it lowers no label, and need not be tried. docs/MODEL.md, "Search",
-- tells it in prose.
use Rattle.std.specs.Prelude.{◌≡◌, ℕ, ◌≤◌, ◌<◌, true, List, IsSomeAnd, length, slice_index_or}
use Rattle.std.specs.Map.{keys_of}
use Rattle.base_laws.specs.Sets.{has}
use Rattle.mq_base.specs.declared.attr_set.AttrSet.{AttrSet}
use Rattle.extended_plan.specs.declared.state.State.{State}
use Rattle.extended_plan.specs.Gains.{across}
use Rattle.assign_table.specs.declared.cell.Cell.{Cell}
use Rattle.assign_table.specs.inside.Cells.{cell_of, state_at}

-- the states across these attributes are listed, with a label of at most so much
abbrev pub AreNear : List (State × Cell) → State → ℕ → ℕ → Type 0
AreNear cells st near most =
    (a : ℕ) → has near a ≡ true → IsSomeAnd (cell_of cells (across a st)) (λ cell. cell.label ≤ most)

-- the attributes that stand at a place
abbrev pub near_at : List AttrSet → ℕ → AttrSet
near_at near place = slice_index_or near place (record { 0 = 0 })

-- it is so of the attributes that stand at the place of each state
abbrev pub AreAllNear : List (State × Cell) → List AttrSet → ℕ → Type 0
AreAllNear cells near front =
    (place : ℕ) → place < length cells → AreNear cells (state_at (keys_of cells) place) (near_at near place).0 front
