-- The rows of a join by the pairs of rows whose cells compare.
use Rattle.std.proofs.Common.{◌≡◌, sym, ◌∙◌, ap, subst, Bool, ℕ, ◌+◌, false, List, [], length, map, All, Option, Some, None, slice_get, arith}
use Rattle.std.specs.Prelude.{IsTrue, flat_map, option_and_then}
use Rattle.std.proofs.lemmas.Bool.{eqb-true}
use Rattle.std.specs.List.{filter, range_with_len}
use Rattle.std.specs.Option.{option_or}
use Rattle.mq_base.specs.declared.query.CmpOp.{CmpOp}
use Rattle.column_table.specs.declared.table.Table.{Table}
use Rattle.column_table.specs.Cells.{Cell, Seals, cell_tests, compares_pair}
use Rattle.column_table.specs.Columns.{Shown, cell_at, has_rows, rows_in, shown_columns}
use Rattle.column_table.specs.Tables.{column_in, row_of, rows_of}
use Rattle.column_table.specs.inside.Pairs.{IsPairOf, pair_row, pairs_by}
use Rattle.column_table.proofs.ColumnLaws.{filled_at}
use Rattle.column_table.proofs.PairRows.{no_pairs, pairs_by_in, pairs_found, pairs_mapped, product_where}
use Rattle.sealed_column.specs.declared.rows.Pair.{Pair}
use Rattle.row_algebra.specs.Rows.{RowOf, merge}
use Rattle.row_algebra.specs.Tests.{both_pass, join, passes_pair}

-- a column of a table has a cell for each row
pub column_long : (table : Table) (a : ℕ) (c : Shown) → column_in table a ≡ Some c → length c.cells ≡ table.rows
column_long table a c is =
    eqb-true (length c.cells) table.rows
    (subst (λ o. IsTrue (has_rows table.rows o)) is (filled_at table.rows (shown_columns table.columns) table.filled a))

-- the cell of a column at a row
pub cell_is : (table : Table) (a row : ℕ) (c : Shown) → column_in table a ≡ Some c
    → cell_at (shown_columns table.columns) row a ≡ slice_get c.cells row
cell_is table a row c is = ap (λ (o : Option Shown). option_and_then (λ (d : Shown). slice_get d.cells row) o) is

no_cell : (table : Table) (a row : ℕ) → column_in table a ≡ None → cell_at (shown_columns table.columns) row a ≡ None
no_cell table a row is = ap (λ (o : Option Shown). option_and_then (λ (d : Shown). slice_get d.cells row) o) is

-- two cells of rows beside each other pass together where they do by themselves
pair_passes : (p : Cell → Cell → Bool) (x y z w : Option Cell) (c d : Cell) → x ≡ Some c → z ≡ None → w ≡ Some d
    → both_pass p (option_or x y) (option_or z w) ≡ p c d
pair_passes p x y z w c d first none second = λ i. both_pass p (option_or (first i) y) (option_or (none i) (second i))

module _ (left right : Table) (seals : Seals) (a : ℕ) (op : CmpOp) (b : ℕ) (c d : Shown) (on_left : column_in left a ≡ Some c)
    (on_right : column_in right b ≡ Some d) (apart : column_in left b ≡ None) where
  -- the pairs of rows whose cells compare so stand for the rows of the join
  pub join_rows : map (pair_row left right) (pairs_by (compares_pair op) 0 c.cells d.cells)
      ≡ join (cell_tests seals) a op b (rows_of left) (rows_of right)
  unfolding rows_in
  join_rows =
      let passes : RowOf Cell → Bool = passes_pair (cell_tests seals) a op b in
      let pair : ℕ → ℕ → RowOf Cell = λ i j. merge (row_of left i) (row_of right j) in
      pairs_found (compares_pair op) passes pair 0 c.cells d.cells
      (λ i x j y at there.
      pair_passes (compares_pair op) (cell_at (shown_columns left.columns) (0 + i) a) (cell_at (shown_columns right.columns) j a)
      (cell_at (shown_columns left.columns) (0 + i) b) (cell_at (shown_columns right.columns) j b) x y
      (cell_is left a (0 + i) c on_left ∙ ap (slice_get c.cells) (from_zero i) ∙ at) (no_cell left b (0 + i) apart)
      (cell_is right b j d on_right ∙ there))
      ∙ (λ k. flat_map (λ i. filter passes (map (pair i) (range_with_len 0 (column_long right b d on_right k))))
      (range_with_len 0 (column_long left a c on_left k)))
      ∙ product_where passes (row_of left) (row_of right) (range_with_len 0 left.rows) (range_with_len 0 right.rows)
    where
      from_zero : (i : ℕ) → 0 + i ≡ i
      from_zero i = omega arith

-- they are in range
pub join_pairs_in : (left right : Table) (a : ℕ) (op : CmpOp) (b : ℕ) (c d : Shown) → column_in left a ≡ Some c → column_in right b ≡ Some d
    → All (IsPairOf left right) (pairs_by (compares_pair op) 0 c.cells d.cells)
join_pairs_in left right a op b c d on_left on_right =
    let long : length c.cells ≡ left.rows = column_long left a c on_left in
    let longs : length d.cells ≡ right.rows = column_long right b d on_right in
    pairs_by_in left right (compares_pair op) 0 c.cells d.cells (omega arith) longs

-- pairs of cells of one kind, and of two
pub same_kind : {C : Type 0} (f : C → Cell) (op : CmpOp) (values others : List C) (cells more : List Cell) → map f values ≡ cells
    → map f others ≡ more → pairs_by (λ c d. compares_pair op (f c) (f d)) 0 values others ≡ pairs_by (compares_pair op) 0 cells more
same_kind f op values others cells more first second =
    sym (pairs_mapped (compares_pair op) f 0 values others) ∙ (λ i. pairs_by (compares_pair op) 0 (first i) (second i))

pub other_kind : {A B : Type 0} (f : A → Cell) (g : B → Cell) (op : CmpOp) (values : List A) (others : List B) (cells more : List Cell)
    (made : List Pair) → ((a : A) (b : B) → compares_pair op (f a) (g b) ≡ false) → map f values ≡ cells → map g others ≡ more
    → made ≡ [] → made ≡ pairs_by (compares_pair op) 0 cells more
other_kind f g op values others cells more made apart first second is =
    is ∙ sym (no_pairs (compares_pair op) f g apart 0 values others) ∙ (λ i. pairs_by (compares_pair op) 0 (first i) (second i))
