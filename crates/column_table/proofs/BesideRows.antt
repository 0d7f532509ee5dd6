-- Two tables beside each other: the columns, the counts and the rows of the result.
use Rattle.std.proofs.Common.{◌≡◌, refl, sym, ◌∙◌, ap, subst, ℕ, zero, suc, ◌+◌, ◌<◌, IsTrue, List, [], ◌∷◌, length, map, get_or, All, Option, Some, None, Result, Ok, Err, option_map, slice_get, arith}
use Rattle.std.specs.Prelude.{IfOk, is_some, option_and_then}
use Rattle.std.proofs.lemmas.Bool.{eqb-true}
use Rattle.std.proofs.lemmas.List.{get_or_default}
use Rattle.std.specs.List.{range_with_len, zip}
use Rattle.std.specs.Option.{option_or}
use Rattle.mq_base.specs.declared.memory.NoMemory.{NoMemory}
use Rattle.column_table.specs.declared.table.Table.{Table}
use Rattle.column_table.specs.Cells.{Cell}
use Rattle.column_table.specs.Columns.{Shown, at_rows, cell_at, column_at, columns_at, count_at, counts_have, has_rows, row_at, rows_in, shown, shown_columns}
use Rattle.column_table.specs.Tables.{column_in, row_of, rows_of}
use Rattle.column_table.specs.inside.Pairs.{AreTaken, merged, pair_row}
use Rattle.column_table.specs.Beside.{IsBeside}
use Rattle.column_table.proofs.ColumnLaws.{column_at-map, filled_at}
use Rattle.row_algebra.specs.Rows.{merge}
use Rattle.sealed_column.specs.declared.column.AnyColumn.{AnyColumn}
use Rattle.sealed_column.specs.declared.rows.Pair.{Pair}
use Rattle.sealed_column.specs.Cells.{picked}

-- ---- a table at rows of another

some_mapped : {X Y : Type 0} (f : X → Y) (o : Option X) → is_some (option_map f o) ≡ is_some o
some_mapped f None = refl
some_mapped f (Some x) = refl

-- what is taken at the rows of a list is taken at those of an equal one
pub are_taken : (table : Table) (listed rows : List ℕ) (r : Result Table NoMemory) → listed ≡ rows
    → IfOk r (λ taken. rows_of taken ≡ map (row_at (shown_columns table.columns) table.counts) listed)
    → IfOk r (λ taken. shown_columns taken.columns ≡ columns_at listed (shown_columns table.columns))
    → IfOk r (λ taken. taken.counts ≡ option_map (λ c. picked c listed) table.counts)
    → IfOk r (λ taken. taken.rows ≡ length listed) → IfOk r (AreTaken table rows)
are_taken table listed rows (Ok taken) same stand columns counts number = record {
  stand = stand ∙ ap (map (row_of table)) same;
  columns = λ a. ap (λ cs. column_at cs a) columns ∙ column_at-map (at_rows listed) (shown_columns table.columns) a
      ∙ ap (λ rs. option_map (at_rows rs) (column_in table a)) same;
  counts = ap is_some counts ∙ some_mapped (λ c. picked c listed) table.counts;
  number = number ∙ ap length same;
}
are_taken table listed rows (Err e) same stand columns counts number = tt

-- ---- columns

shown_at : (columns : List (Option AnyColumn)) (a : ℕ) → column_at (shown_columns columns) a ≡ option_map shown (get_or columns a None)
shown_at [] a = refl
shown_at (c ∷ columns) zero = refl
shown_at (c ∷ columns) (suc a) = shown_at columns a

shown_or : (x y : Option AnyColumn) → option_map shown (option_or x y) ≡ option_or (option_map shown x) (option_map shown y)
shown_or None y = refl
shown_or (Some x) y = refl

-- the columns shown are at each place the first that is there
pub columns_or : (columns others made : List (Option AnyColumn))
    → ((a : ℕ) → get_or made a None ≡ option_or (get_or columns a None) (get_or others a None)) → (a : ℕ)
    → column_at (shown_columns made) a ≡ option_or (column_at (shown_columns columns) a) (column_at (shown_columns others) a)
columns_or columns others made is a =
    shown_at made a ∙ ap (option_map shown) (is a) ∙ shown_or (get_or columns a None) (get_or others a None)
    ∙ (λ i. option_or (sym (shown_at columns a) i) (sym (shown_at others a) i))

filled_or : (rows : ℕ) (x y : Option Shown) → IsTrue (has_rows rows x) → IsTrue (has_rows rows y) → IsTrue (has_rows rows (option_or x y))
filled_or rows None y first second = second
filled_or rows (Some c) y first second = first

-- each has a cell for each row
pub filled_beside : (rows others_rows : ℕ) (columns others made : List (Option Shown)) → others_rows ≡ rows
    → All (λ c. IsTrue (has_rows rows c)) columns → All (λ c. IsTrue (has_rows others_rows c)) others
    → ((a : ℕ) → column_at made a ≡ option_or (column_at columns a) (column_at others a)) → All (λ c. IsTrue (has_rows rows c)) made
filled_beside rows others_rows columns others made same first second is k d below =
    subst (λ c. IsTrue (has_rows rows c)) (sym (get_or_default made k d None below ∙ is k))
    (filled_or rows (column_at columns k) (column_at others k) (filled_at rows columns first k)
    (subst (λ n. IsTrue (has_rows n (column_at others k))) same (filled_at others_rows others second k)))

-- and so have the counts
pub counted_beside : (rows others_rows : ℕ) (counts others : Option (List ℕ)) → others_rows ≡ rows → IsTrue (counts_have rows counts)
    → IsTrue (counts_have others_rows others) → IsTrue (counts_have rows (option_or counts others))
counted_beside rows others_rows None others same first second = subst (λ n. IsTrue (counts_have n others)) same second
counted_beside rows others_rows (Some c) others same first second = first

-- ---- rows

-- the cell at a row is the first that is there
cell_or : (rows row : ℕ) (x y : Option Shown) → row < rows → IsTrue (has_rows rows x)
    → option_and_then (λ (c : Shown). slice_get c.cells row) (option_or x y)
    ≡ option_or (option_and_then (λ (c : Shown). slice_get c.cells row) x) (option_and_then (λ (c : Shown). slice_get c.cells row) y)
cell_or rows row None y below filled = refl
cell_or rows row (Some c) y below filled =
    let long : length c.cells ≡ rows = eqb-true (length c.cells) rows filled in
    by_cell c.cells row (omega arith)
  where
    by_cell : (cells : List Cell) (i : ℕ) → i < length cells
        → slice_get cells i ≡ option_or (slice_get cells i) (option_and_then (λ (c : Shown). slice_get c.cells row) y)
    by_cell [] i under = absurd (omega arith)
    by_cell (cell ∷ cells) zero under = refl
    by_cell (cell ∷ cells) (suc i) under = by_cell cells i (omega arith)

count_or : (rows row : ℕ) (x y : Option (List ℕ)) → row < rows → IsTrue (counts_have rows x)
    → count_at (option_or x y) row ≡ option_or (count_at x row) (count_at y row)
count_or rows row None y below counted = refl
count_or rows row (Some c) y below counted =
    let long : length c ≡ rows = eqb-true (length c) rows counted in
    by_count c row (omega arith)
  where
    by_count : (counts : List ℕ) (i : ℕ) → i < length counts → slice_get counts i ≡ option_or (slice_get counts i) (count_at y row)
    by_count [] i under = absurd (omega arith)
    by_count (n ∷ counts) zero under = refl
    by_count (n ∷ counts) (suc i) under = by_count counts i (omega arith)

module _ (rows : ℕ) (columns others made : List (Option Shown)) (counts other_counts made_counts : Option (List ℕ))
    (filled : All (λ c. IsTrue (has_rows rows c)) columns) (counted : IsTrue (counts_have rows counts))
    (are : (a : ℕ) → column_at made a ≡ option_or (column_at columns a) (column_at others a))
    (counts_are : made_counts ≡ option_or counts other_counts) where
  row_or : (row : ℕ) → row < rows → row_at made made_counts row ≡ merge (row_at columns counts row) (row_at others other_counts row)
  row_or row below = λ j. record {
    cell = λ a. cells a j;
    count = (ap (λ c. count_at c row) counts_are ∙ count_or rows row counts other_counts below counted) j;
  }
    where
      cells : (a : ℕ) → cell_at made row a ≡ option_or (cell_at columns row a) (cell_at others row a)
      cells a =
          ap (λ (c : Option Shown). option_and_then (λ (d : Shown). slice_get d.cells row) c) (are a)
          ∙ cell_or rows row (column_at columns a) (column_at others a) below (filled_at rows columns filled a)

  rows_from : (row count : ℕ) → row + count ≡ rows
      → map (row_at made made_counts) (range_with_len row count)
      ≡ map merged (zip (map (row_at columns counts) (range_with_len row count)) (map (row_at others other_counts) (range_with_len row count)))
  rows_from row zero is = refl
  rows_from row (suc count) is =
      let first = row_or row (omega arith) in
      let rest = rows_from (row + 1) count (omega arith) in
      λ i. first i ∷ rest i

  -- the rows are those of the two, each beside that of the other at its place
  pub rows_beside : (others_rows : ℕ) → others_rows ≡ rows
      → rows_in made made_counts rows ≡ map merged (zip (rows_in columns counts rows) (rows_in others other_counts others_rows))
  unfolding rows_in
  rows_beside others_rows same =
      rows_from 0 rows (omega arith)
      ∙ ap (λ n. map merged (zip (map (row_at columns counts) (range_with_len 0 rows)) (map (row_at others other_counts) (range_with_len 0 n)))) (sym same)

-- rows taken for pairs, each beside the other of its pair
pub pairs_beside : (left right : Table) (pairs : List Pair)
    → map merged (zip (map (row_of left) (map (λ (p : Pair). p.left) pairs)) (map (row_of right) (map (λ (p : Pair). p.right) pairs)))
    ≡ map (pair_row left right) pairs
pairs_beside left right [] = refl
pairs_beside left right (p ∷ pairs) = ap (λ rows. pair_row left right p ∷ rows) (pairs_beside left right pairs)

some_or : {X : Type 0} (x y z w : Option X) → is_some x ≡ is_some z → is_some y ≡ is_some w → is_some (option_or x y) ≡ is_some (option_or z w)
some_or None y None w first second = second
some_or (Some x) y (Some z) w first second = refl
some_or None y (Some z) w first second = cc
some_or (Some x) y None w first second = cc

-- the rows of pairs stand beside each other
pub pairs_are_beside : (left right lefts rights made : Table) (rows others : List ℕ) → AreTaken left rows lefts → AreTaken right others rights
    → ((a : ℕ) → column_in made a ≡ option_or (column_in lefts a) (column_in rights a)) → made.counts ≡ option_or lefts.counts rights.counts
    → IsBeside left right made
pairs_are_beside left right lefts rights made rows others first second columns counts = record {
  left_rows = rows;
  right_rows = others;
  columns = λ a. columns a ∙ (λ i. option_or (first.columns a i) (second.columns a i));
  counts = ap is_some counts ∙ some_or lefts.counts rights.counts left.counts right.counts first.counts second.counts;
}

pub pairs_stand : (left right lefts rights made : Table) (pairs : List Pair) → AreTaken left (map (λ (p : Pair). p.left) pairs) lefts
    → AreTaken right (map (λ (p : Pair). p.right) pairs) rights → rows_of made ≡ map merged (zip (rows_of lefts) (rows_of rights))
    → rows_of made ≡ map (pair_row left right) pairs
pairs_stand left right lefts rights made pairs first second is =
    is ∙ (λ i. map merged (zip (first.stand i) (second.stand i))) ∙ pairs_beside left right pairs
