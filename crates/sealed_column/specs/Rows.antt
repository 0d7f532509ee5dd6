-- Which rows of columns have equal cells: the rows of a cell, the pairs of an equality join, and groups.
-- docs/CIPHERS.md, "Rows with equal cells", tells it in prose.
use Rattle.std.specs.Prelude.{◌≡◌, ℕ, ◌+◌, List, [], ◌∷◌, ◌++◌, map, Option, Some, None, if◌then◌else◌}
use Rattle.std.specs.Borrow.{Bor}
use Rattle.std.specs.BTreeMap as tree
use Rattle.std.specs.BTreeMap.{BTreeMap}
use Rattle.std.specs.Ordering.{is_eq}
use Rattle.std.specs.declared.cmp.Ordering.{Ordering}
use Rattle.base_laws.specs.Lists.{firsts}
use Rattle.sealed_column.specs.declared.rows.Pair.{Pair}

-- the rows whose cell is equal to a cell, ascending, where the first cell of the list stands in this row
abbrev pub rows_at : {C : Type 0} → (C → C → Ordering) → C → ℕ → List C → List ℕ
rows_at cmp cell row [] = []
rows_at cmp cell row (c ∷ rest) = (if is_eq (cmp c cell) then row ∷ [] else []) ++ rows_at cmp cell (row + 1) rest

-- a row of the left with each of these rows of the right
abbrev pub paired : ℕ → List ℕ → List Pair
paired row others = map (λ other. record { left = row; right = other }) others

-- each row of the left with each row of the right whose cell is equal: by ascending left rows, and for each by ascending right ones
abbrev pub pairs_from : {C : Type 0} → (C → C → Ordering) → ℕ → List C → List C → List Pair
pairs_from cmp row [] right = []
pairs_from cmp row (c ∷ rest) right = paired row (rows_at cmp c 0 right) ++ pairs_from cmp (row + 1) rest right

-- for each kind of cell, in the order in which the kinds first occur, its rows
abbrev pub groups_of : {C : Type 0} → (C → C → Ordering) → List C → List (List ℕ)
groups_of cmp cells = map (λ cell. rows_at cmp cell 0 cells) (firsts (λ c d. is_eq (cmp c d)) cells)

-- the rows that are listed, if there are any
abbrev pub listed : Option (List ℕ) → List ℕ
listed None = []
listed (Some rows) = rows

-- a map that has for each cell its rows, and nothing for a cell that does not occur
pub record IsIndex {C : Type 0} (cmp : C → C → Ordering) (found : BTreeMap (Bor C) (List ℕ)) (cells : List C) : Type 0 where
  pub at : (cell : Bor C) → listed (tree.get (λ c d. cmp c.now d.now) found cell) ≡ rows_at cmp cell.now 0 cells
