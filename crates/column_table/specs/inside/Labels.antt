-- The groups of a table's rows: which rows have the same cells, and numbers that tell it. docs/MODEL.md, "Encoded run", tells it in prose.
use Rattle.std.specs.Prelude.{◌≡◌, ℕ, ◌<◌, ◌==◌, ◌&&◌, Bool, false, List, length, map, filter, Option, Some, slice_get, slice_index_or}
use Rattle.std.specs.List.{All, list_all, range_with_len}
use Rattle.std.specs.Ordering.{is_eq}
use Rattle.std.specs.declared.cmp.Ordering.{Ordering}
use Rattle.base_laws.specs.Lists.{firsts}
use Rattle.base_laws.specs.Sets.{members, IsWithin}
use Rattle.column_table.specs.declared.table.Table.{Table}
use Rattle.column_table.specs.Cells.{Cell, cell_step, compares_pair}
use Rattle.column_table.specs.Columns.{Shown, cell_at, column_at, shown_columns}
use Rattle.column_table.specs.Groups.{first_in}
use Rattle.column_table.specs.Tables.{row_of}
use Rattle.row_algebra.specs.Groups.{same_cell, same_cells}
use Rattle.row_algebra.specs.Tests.{Tests}
use Rattle.sealed_column.specs.declared.rows.Pair.{Pair}
use Rattle.sealed_column.specs.Rows.{rows_at}

-- what is asked of cells without constants
abbrev pub own_tests : Tests Cell
own_tests = record { constant = λ a op x c. false; pair = compares_pair; step = cell_step }

-- whether two cells of a list are the same
abbrev pub same_in : List Cell → ℕ → ℕ → Bool
same_in cells i j = same_cell own_tests (slice_get cells i) (slice_get cells j)

-- whether two rows of a table have the same cell of an attribute, and of each of a set
abbrev pub same_at : Table → ℕ → ℕ → ℕ → Bool
same_at table i j a = same_cell own_tests (cell_at (shown_columns table.columns) i a) (cell_at (shown_columns table.columns) j a)

abbrev pub same_rows : Table → ℕ → ℕ → ℕ → Bool
same_rows table set i j = same_cells own_tests set (row_of table i) (row_of table j)

-- for each cell of a list the first row with an equal one
abbrev pub first_rows : {C : Type 0} → (C → C → Ordering) → List C → List ℕ
first_rows cmp cells = map (λ c. first_in (rows_at cmp c 0 cells)) cells

-- numbers that are equal for just those rows that pass a test together
pub record AreLabels (same : ℕ → ℕ → Bool) (rows : ℕ) (labels : List ℕ) : Type 0 where
  pub for_each : length labels ≡ rows
  pub tell : (i j : ℕ) → i < rows → j < rows → (slice_index_or labels i 0 == slice_index_or labels j 0) ≡ same i j

-- two rows have equal cells just where they pass a test together
abbrev pub TellsEqual : {C : Type 0} → (C → C → Ordering) → List C → (ℕ → ℕ → Bool) → Type 0
TellsEqual {C} cmp cells same = (i j : ℕ) (c d : C) → slice_get cells i ≡ Some c → slice_get cells j ≡ Some d → is_eq (cmp c d) ≡ same i j

-- two numbers of a row as a pair
abbrev pub label_pair : ℕ × ℕ → Pair
label_pair numbers = record { left = numbers.0; right = numbers.1 }

-- whether two rows have equal numbers in both of two lists
abbrev pub both_equal : List ℕ → List ℕ → ℕ → ℕ → Bool
both_equal labels others i j =
    (slice_index_or labels i 0 == slice_index_or labels j 0) && (slice_index_or others i 0 == slice_index_or others j 0)

-- numbers that tell, with the attributes that are left, which rows have the same cells of a set
pub record AreLabelsSoFar (table : Table) (set left : ℕ) (labels : List ℕ) : Type 0 where
  pub within : IsWithin left set
  pub for_each : length labels ≡ table.rows
  pub tell : (i j : ℕ) → i < table.rows → j < table.rows
      → ((slice_index_or labels i 0 == slice_index_or labels j 0) && list_all (same_at table i j) (members left)) ≡ same_rows table set i j

-- for each row that passes with none before it, the rows that pass with it
abbrev pub groups_by : (ℕ → ℕ → Bool) → ℕ → List (List ℕ)
groups_by same rows = map (λ head. filter (same head) (range_with_len 0 rows)) (firsts same (range_with_len 0 rows))

-- the rows of a group: there is one, and each is below a number
pub record IsGroup (rows : ℕ) (group : List ℕ) : Type 0 where
  pub some : 0 < length group
  pub within : All (λ row. row < rows) group

-- groups of the rows of columns
pub record AreGroupsOf (columns : List (Option Shown)) (groups : List (List ℕ)) : Type 0 where
  pub each : (a : ℕ) (c : Shown) → column_at columns a ≡ Some c → All (IsGroup (length c.cells)) groups
