-- Laws of columns as rows: what is picked of them, and the rows that they stand for then.
use Rattle.std.proofs.Common.{◌≡◌, refl, sym, ◌∙◌, ap, subst, ℕ, zero, suc, ◌+◌, ◌<◌, ◌==◌, true, IsTrue, List, [], ◌∷◌, length, map, get_or, All, Option, Some, None, option_map, slice_get, arith, take, ◌++◌}
use Rattle.sealed_column.proofs.CellLaws.{picked_more}
use Rattle.std.proofs.lemmas.List.{get_or_default}
use Rattle.mq_base.specs.declared.table.Scheme.{Scheme}
use Rattle.mq_base.specs.declared.value.ValueType.{ValueType}
use Rattle.std.specs.Prelude.{slice_index_or, option_and_then}
use Rattle.std.specs.List.{range_with_len, cons_option}
use Rattle.std.proofs.lemmas.Bool.{eqb-true, eq-eqb}
use Rattle.std.proofs.lemmas.List.FromFn.{length-map-range_with_len}
use Rattle.std.proofs.lemmas.List.Elements.{All-nil, All-cons, All-head, All-tail}
use Rattle.std.proofs.lemmas.Option.{slice_get-map}
use Rattle.sealed_column.specs.declared.column.AnyColumn.{AnyColumn}
use Rattle.sealed_column.specs.Cells.{picked}
use Rattle.column_table.specs.Cells.{Cell}
use Rattle.column_table.specs.Columns.{Shown, at_rows, cell_at, column_at, columns_at, count_at, counts_have, has_rows, row_at, rows_in, shown, shown_columns}

-- there are as many rows as are said
pub rows_length : (columns : List (Option Shown)) (counts : Option (List ℕ)) (rows : ℕ) → length (rows_in columns counts rows) ≡ rows
unfolding rows_in
rows_length columns counts rows = length-map-range_with_len (row_at columns counts) 0 rows

-- what is picked of mapped cells
pub picked-map : {A B : Type 0} (f : A → B) (xs : List A) (rows : List ℕ) → picked (map f xs) rows ≡ map f (picked xs rows)
picked-map f xs [] = refl
picked-map {A} {B} f xs (row ∷ rows) =
    ap (λ o. cons_option o (picked (map f xs) rows)) (slice_get-map f xs row) ∙ by_cell (slice_get xs row) (picked-map f xs rows)
  where
    by_cell : (o : Option A) → picked (map f xs) rows ≡ map f (picked xs rows)
        → cons_option (option_map f o) (picked (map f xs) rows) ≡ map f (cons_option o (picked xs rows))
    by_cell None rest = rest
    by_cell (Some x) rest = ap (λ ys. f x ∷ ys) rest

-- a list has what stands at a place below its length
there : {X : Type 0} (xs : List X) (i : ℕ) → i < length xs → (x : X) × (slice_get xs i ≡ Some x)
there [] i below = absurd (omega arith)
there (x ∷ xs) zero below = (x, refl)
there (x ∷ xs) (suc i) below = there xs i (omega arith)

-- as many cells are picked as there are rows
pub picked-length : {X : Type 0} (xs : List X) (rows : List ℕ) → All (λ row. row < length xs) rows → length (picked xs rows) ≡ length rows
picked-length xs [] within = refl
picked-length {X} xs (row ∷ rows) within =
    let cell = there xs row (All-head (λ r. r < length xs) row rows within) in
    rw cell.1 (ap suc (picked-length xs rows (All-tail (λ r. r < length xs) row rows within)))

-- the cell picked at a place is that of the row listed there
pub picked-at : {X : Type 0} (xs : List X) (rows : List ℕ) → All (λ row. row < length xs) rows → (i row : ℕ)
    → slice_get rows i ≡ Some row → slice_get (picked xs rows) i ≡ slice_get xs row
picked-at xs [] within i row listed = cc
picked-at {X} xs (first ∷ rows) within i row listed =
    let cell = there xs first (All-head (λ r. r < length xs) first rows within) in
    by_place i listed cell.0 cell.1 (λ k here. picked-at xs rows (All-tail (λ r. r < length xs) first rows within) k row here)
  where
    by_place : (k : ℕ) → slice_get (first ∷ rows) k ≡ Some row → (x : X) → slice_get xs first ≡ Some x
        → ((j : ℕ) → slice_get rows j ≡ Some row → slice_get (picked xs rows) j ≡ slice_get xs row)
        → slice_get (cons_option (slice_get xs first) (picked xs rows)) k ≡ slice_get xs row
    by_place zero here x is rest =
        let same : first ≡ row = cc in
        let one : slice_get (cons_option (Some x) (picked xs rows)) 0 ≡ slice_get xs row = sym is ∙ ap (slice_get xs) same in
        subst (λ o. slice_get (cons_option o (picked xs rows)) 0 ≡ slice_get xs row) (sym is) one
    by_place (suc k) here x is rest =
        subst (λ o. slice_get (cons_option o (picked xs rows)) (suc k) ≡ slice_get xs row) (sym is) (rest k here)

-- the column of an attribute is the one at its place
pub column_is : (columns : List (Option AnyColumn)) (a : ℕ) (d column : Option AnyColumn) → a < length columns
    → column ≡ get_or columns a d → column_at (shown_columns columns) a ≡ option_map shown column
column_is [] a d column below is = absurd (omega arith)
column_is (c ∷ columns) zero d column below is = ap (option_map shown) (sym is)
column_is (c ∷ columns) (suc a) d column below is = column_is columns a d column (omega arith) is

-- what a function makes of each place is what it makes of the list
pub each_place : {X Y : Type 0} (f : X → Y) (d : X) (xs : List X) (start : ℕ) (g : ℕ → X) → ((i : ℕ) → i < length xs → g (start + i) ≡ slice_index_or xs i d)
    → map (λ i. f (g i)) (range_with_len start (length xs)) ≡ map f xs
each_place f d [] start g reads = refl
each_place f d (x ∷ xs) start g reads =
    let first : g start ≡ x = ap g (omega arith) ∙ reads 0 (omega arith) in
    rw (first, each_place f d xs (start + 1) g (λ i below. ap g (omega arith) ∙ reads (suc i) (omega arith))) refl

-- a column at a place, of columns that a function changes
pub column_at-map : (f : Shown → Shown) (columns : List (Option Shown)) (a : ℕ)
    → column_at (map (option_map f) columns) a ≡ option_map f (column_at columns a)
column_at-map f [] a = refl
column_at-map f (c ∷ columns) zero = refl
column_at-map f (c ∷ columns) (suc a) = column_at-map f columns a

from_zero : (i : ℕ) → 0 + i ≡ i
from_zero i = omega arith

-- columns that were made one by one are those that a function makes
pub columns_from : (f : Shown → Shown) (columns made : List (Option Shown)) → length columns ≡ 64
    → made ≡ map (λ a. option_map f (column_at columns a)) (range_with_len 0 64) → made ≡ map (option_map f) columns
columns_from f columns made long is =
    is
    ∙ ap (λ n. map (λ a. option_map f (column_at columns a)) (range_with_len 0 n)) (sym long)
    ∙ each_place (option_map f) None columns 0 (column_at columns) (λ i below. ap (column_at columns) (from_zero i))

-- each column, also a missing one, has a cell for each row
pub filled_at : (rows : ℕ) (columns : List (Option Shown)) → All (λ c. IsTrue (has_rows rows c)) columns → (a : ℕ)
    → IsTrue (has_rows rows (column_at columns a))
filled_at rows [] filled a = refl
filled_at rows (c ∷ columns) filled zero = All-head (λ d. IsTrue (has_rows rows d)) c columns filled
filled_at rows (c ∷ columns) filled (suc a) = filled_at rows columns (All-tail (λ d. IsTrue (has_rows rows d)) c columns filled) a

long_as : (rows n : ℕ) → IsTrue (n == rows) → n ≡ rows
long_as rows n is = eqb-true n rows is

-- what a function gives at the numbers from a place on is what another gives at what is listed
pub along : {X : Type 0} (g h : ℕ → X) (rows : List ℕ) (start : ℕ)
    → ((i row : ℕ) → slice_get rows i ≡ Some row → g (start + i) ≡ h row) → map g (range_with_len start (length rows)) ≡ map h rows
along g h [] start agree = refl
along g h (row ∷ rows) start agree =
    let first : g start ≡ h row = ap g (omega arith) ∙ agree 0 row refl in
    rw (first, along g h rows (start + 1) (λ i r listed. ap g (omega arith) ∙ agree (suc i) r listed)) refl

-- the cell and the count at a place of what was picked are those of the row listed there
cell_taken : (count : ℕ) (rows : List ℕ) → All (λ row. row < count) rows → (i row : ℕ) → slice_get rows i ≡ Some row
    → (column : Option Shown) → IsTrue (has_rows count column)
    → option_and_then (λ (c : Shown). slice_get c.cells i) (option_map (at_rows rows) column)
    ≡ option_and_then (λ (c : Shown). slice_get c.cells row) column
cell_taken count rows within i row listed None filled = refl
cell_taken count rows within i row listed (Some c) filled =
    let long : count ≡ length c.cells = sym (long_as count (length c.cells) filled) in
    picked-at c.cells rows (subst (λ n. All (λ r. r < n) rows) long within) i row listed

count_taken : (count : ℕ) (rows : List ℕ) → All (λ row. row < count) rows → (i row : ℕ) → slice_get rows i ≡ Some row
    → (counts : Option (List ℕ)) → IsTrue (counts_have count counts)
    → count_at (option_map (λ c. picked c rows) counts) i ≡ count_at counts row
count_taken count rows within i row listed None filled = refl
count_taken count rows within i row listed (Some c) filled =
    let long : count ≡ length c = sym (long_as count (length c) filled) in
    picked-at c rows (subst (λ n. All (λ r. r < n) rows) long within) i row listed

-- rows of one table at the rows of another that its columns and counts were picked at
row_taken : (columns : List (Option Shown)) (counts : Option (List ℕ)) (count : ℕ) (rows : List ℕ)
    → All (λ c. IsTrue (has_rows count c)) columns → IsTrue (counts_have count counts) → All (λ row. row < count) rows
    → (i row : ℕ) → slice_get rows i ≡ Some row
    → row_at (columns_at rows columns) (option_map (λ c. picked c rows) counts) i ≡ row_at columns counts row
row_taken columns counts count rows filled counted within i row listed = λ j. record {
  cell = λ a. cells a j;
  count = count_taken count rows within i row listed counts counted j;
}
  where
    cells : (a : ℕ) → cell_at (columns_at rows columns) i a ≡ cell_at columns row a
    cells a =
        ap (λ (c : Option Shown). option_and_then (λ (d : Shown). slice_get d.cells i) c) (column_at-map (at_rows rows) columns a)
        ∙ cell_taken count rows within i row listed (column_at columns a) (filled_at count columns filled a)

pub rows_taken : (columns taken : List (Option Shown)) (counts taken_counts : Option (List ℕ)) (count number : ℕ) (rows : List ℕ)
    → All (λ c. IsTrue (has_rows count c)) columns → IsTrue (counts_have count counts) → All (λ row. row < count) rows
    → taken ≡ columns_at rows columns → taken_counts ≡ option_map (λ c. picked c rows) counts → number ≡ length rows
    → rows_in taken taken_counts number ≡ map (row_at columns counts) rows
unfolding rows_in
rows_taken columns taken counts taken_counts count number rows filled counted within is counts_are long =
    (λ j. map (row_at (is j) (counts_are j)) (range_with_len 0 (long j)))
    ∙ along (row_at (columns_at rows columns) (option_map (λ c. picked c rows) counts)) (row_at columns counts) rows 0
    (λ i row listed. ap (row_at (columns_at rows columns) (option_map (λ c. picked c rows) counts)) (from_zero i)
    ∙ row_taken columns counts count rows filled counted within i row listed)

same_length : {X Y : Type 0} (xs : List X) (ys : List Y) → length xs ≡ length ys → (length xs == length ys) ≡ true
same_length xs ys same = eq-eqb (length xs) (length ys) same

-- what is picked of columns has a cell for each listed row
has_taken : (count : ℕ) (rows : List ℕ) → All (λ row. row < count) rows → (column : Option Shown) → IsTrue (has_rows count column)
    → IsTrue (has_rows (length rows) (option_map (at_rows rows) column))
has_taken count rows within None filled = refl
has_taken count rows within (Some c) filled =
    let long : count ≡ length c.cells = sym (long_as count (length c.cells) filled) in
    same_length (picked c.cells rows) rows (picked-length c.cells rows (subst (λ n. All (λ r. r < n) rows) long within))

pub filled_taken : (columns taken : List (Option Shown)) (count number : ℕ) (rows : List ℕ)
    → All (λ c. IsTrue (has_rows count c)) columns → All (λ row. row < count) rows → taken ≡ columns_at rows columns
    → number ≡ length rows → All (λ c. IsTrue (has_rows number c)) taken
filled_taken columns taken count number rows filled within is long =
    subst (λ n. All (λ c. IsTrue (has_rows n c)) taken) (sym long)
    (subst (λ cs. All (λ c. IsTrue (has_rows (length rows) c)) cs) (sym is) (each columns filled))
  where
    each : (cs : List (Option Shown)) → All (λ c. IsTrue (has_rows count c)) cs
        → All (λ c. IsTrue (has_rows (length rows) c)) (columns_at rows cs)
    each [] all = All-nil (λ c. IsTrue (has_rows (length rows) c))
    each (c ∷ cs) all =
        All-cons (λ d. IsTrue (has_rows (length rows) d)) (option_map (at_rows rows) c) (columns_at rows cs)
        (has_taken count rows within c (All-head (λ d. IsTrue (has_rows count d)) c cs all))
        (each cs (All-tail (λ d. IsTrue (has_rows count d)) c cs all))

pub counted_taken : (counts taken : Option (List ℕ)) (count number : ℕ) (rows : List ℕ) → IsTrue (counts_have count counts)
    → All (λ row. row < count) rows → taken ≡ option_map (λ c. picked c rows) counts → number ≡ length rows
    → IsTrue (counts_have number taken)
counted_taken counts taken count number rows counted within is long =
    subst (λ n. IsTrue (counts_have n taken)) (sym long)
    (subst (λ cs. IsTrue (counts_have (length rows) cs)) (sym is) (by_counts counts counted))
  where
    by_counts : (cs : Option (List ℕ)) → IsTrue (counts_have count cs)
        → IsTrue (counts_have (length rows) (option_map (λ c. picked c rows) cs))
    by_counts None all = refl
    by_counts (Some c) all =
        let as_long : count ≡ length c = sym (long_as count (length c) all) in
        same_length (picked c rows) rows (picked-length c rows (subst (λ n. All (λ r. r < n) rows) as_long within))

abbrev the_shown : Option Scheme → ValueType → List Cell → Shown
the_shown sealed_by ty cells = record { scheme = sealed_by; ty = ty; cells = cells }

-- what a column shows at rows is what is shown of its cells there
pub shown_taken : {C : Type 0} (f : C → Cell) (sealed_by : Option Scheme) (ty typed : ValueType) (cells taken : List C) (rows : List ℕ)
    → typed ≡ ty → taken ≡ picked cells rows
    → the_shown sealed_by typed (map f taken) ≡ at_rows rows (the_shown sealed_by ty (map f cells))
shown_taken f sealed_by ty typed cells taken rows same is =
    λ j. the_shown sealed_by (same j) ((ap (map f) is ∙ sym (picked-map f cells rows)) j)

-- rows of a table are rows of each of its columns
pub within_column : (count : ℕ) (c : Shown) (rows : List ℕ) → IsTrue (has_rows count (Some c)) → All (λ row. row < count) rows
    → All (λ row. row < length c.cells) rows
within_column count c rows filled within =
    subst (λ n. All (λ row. row < n) rows) (sym (long_as count (length c.cells) filled)) within

pub within_counts : (count : ℕ) (c : List ℕ) (rows : List ℕ) → IsTrue (counts_have count (Some c)) → All (λ row. row < count) rows
    → All (λ row. row < length c) rows
within_counts count c rows filled within = subst (λ n. All (λ row. row < n) rows) (sym (long_as count (length c) filled)) within

-- the numbers picked at one more row
pub numbers_more : (numbers rows : List ℕ) (i : ℕ) → i < length rows → get_or rows i 0 < length numbers
    → picked numbers (take (i + 1) rows) ≡ picked numbers (take i rows) ++ get_or numbers (get_or rows i 0) 0 ∷ []
numbers_more numbers rows i below within =
    let read : get_or numbers (get_or rows i 0) 0 ≡ get_or numbers (get_or rows i 0) (get_or numbers (get_or rows i 0) 0) =
    get_or_default numbers (get_or rows i 0) 0 _ within in
    sym (picked_more numbers rows i (get_or numbers (get_or rows i 0) 0) (get_or numbers (get_or rows i 0) 0)
    (picked numbers (take i rows)) (picked numbers (take i rows) ++ get_or numbers (get_or rows i 0) 0 ∷ []) below within read refl refl refl)
