-- Rows of two tables beside each other: the pairs that a product and a join list, and the rows that they stand for.
use Rattle.std.proofs.Common.{◌≡◌, refl, sym, ◌∙◌, ap, ℕ, zero, suc, ◌+◌, ◌*◌, ◌<◌, Bool, true, false, List, [], ◌∷◌, ◌++◌, length, map, get_or, take, replicate, All, Option, Some, None, slice_get, cond, if◌then◌else◌, arith, append_assoc, append-nil}
use Rattle.std.proofs.lemmas.List.{length-append, length-map, length-take-le, map-append, replicate-append-replicate}
use Rattle.std.proofs.lemmas.List.Concat.{flat_map-append}
use Rattle.std.proofs.lemmas.List.Elements.{All-append, All-nil, All-cons, All-map, All-weaker}
use Rattle.std.proofs.lemmas.List.FromFn.{length-range_with_len}
use Rattle.std.specs.Prelude.{flat_map, option_and_then}
use Rattle.std.specs.Cmp.{IsTotalOrder}
use Rattle.std.specs.List.{filter, range_with_len}
use Rattle.std.specs.Ordering.{is_eq, ordering_reverse}
use Rattle.std.specs.declared.cmp.Ordering.{Ordering}
use Rattle.std.specs.declared.cmp.Ordering.TheVariants.{Less, Equal, Greater}
use Rattle.base_laws.proofs.FilterLaws.{each_always, filter_flat_map, flat_map_same, map_flat_map, map_map}
use Rattle.base_laws.proofs.ListLaws.{flat_map-map}
use Rattle.column_table.specs.declared.table.Table.{Table}
use Rattle.column_table.specs.Columns.{Shown, column_at, row_at, rows_in}
use Rattle.column_table.specs.inside.Pairs.{IsPairOf, all_pairs, pair_row, pairs_by, rows_where}
use Rattle.column_table.specs.Tables.{row_of}
use Rattle.row_algebra.specs.Rows.{RowOf, empty_row, merge, product}
use Rattle.sealed_column.proofs.SmallLaws.{longer}
use Rattle.sealed_column.specs.declared.rows.Pair.{Pair}
use Rattle.sealed_column.specs.Rows.{paired, pairs_from, rows_at}

-- ---- numbers from a place on

-- one more number at the end
pub range_suc : (a n : ℕ) → range_with_len a (suc n) ≡ range_with_len a n ++ (a + n) ∷ []
range_suc a zero = let here : a ≡ a + 0 = omega arith in ap (λ i. i ∷ []) here
range_suc a (suc n) =
    let same : a + 1 + n ≡ a + suc n = omega arith in
    ap (λ is. a ∷ is) (range_suc (a + 1) n ∙ ap (λ i. range_with_len (a + 1) n ++ i ∷ []) same)

pub range_more : (n : ℕ) → range_with_len 0 (n + 1) ≡ range_with_len 0 n ++ n ∷ []
range_more n =
    let next : n + 1 ≡ suc n = omega arith in
    let last : 0 + n ≡ n = omega arith in
    ap (range_with_len 0) next ∙ range_suc 0 n ∙ ap (λ i. range_with_len 0 n ++ i ∷ []) last

-- each number of a range is below its end
pub range_below : (a n : ℕ) → All (λ i. i < a + n) (range_with_len a n)
range_below a zero = All-nil (λ i. i < a + 0)
range_below a (suc n) =
    All-cons (λ i. i < a + suc n) a (range_with_len (a + 1) n) (omega arith)
    (All-weaker (λ i. i < a + 1 + n) (λ i. i < a + suc n) (λ i below. omega arith) (range_with_len (a + 1) n) (range_below (a + 1) n))

-- ---- every pair

-- the pairs with those of one more row
pub all_pairs_more : (rows others : ℕ) → all_pairs (rows + 1) others ≡ all_pairs rows others ++ paired rows (range_with_len 0 others)
unfolding all_pairs
all_pairs_more rows others =
    ap (flat_map (λ row. paired row (range_with_len 0 others))) (range_more rows)
    ∙ flat_map-append (λ row. paired row (range_with_len 0 others)) (range_with_len 0 rows) (rows ∷ [])
    ∙ ap (λ (ps : List Pair). flat_map (λ row. paired row (range_with_len 0 others)) (range_with_len 0 rows) ++ ps)
    (append-nil (paired rows (range_with_len 0 others)))

-- a row with each of one more
pub paired_range_more : (start before after : List Pair) (row other : ℕ) → before ≡ start ++ paired row (range_with_len 0 other)
    → after ≡ before ++ record { left = row; right = other } ∷ [] → after ≡ start ++ paired row (range_with_len 0 (other + 1))
paired_range_more start before after row other so_far is =
    is
    ∙ ap (λ (ps : List Pair). ps ++ record { left = row; right = other } ∷ []) so_far
    ∙ append_assoc start (paired row (range_with_len 0 other)) _
    ∙ ap (λ (ps : List Pair). start ++ ps)
    (sym (map-append (λ k. record { left = row; right = k }) (range_with_len 0 other) (other ∷ [])) ∙ ap (paired row) (sym (range_more other)))

-- ---- pairs whose cells pass a test

rows_where-push : {C : Type 0} (test : C → Bool) (row : ℕ) (cells : List C) (c : C)
    → rows_where test row (cells ++ c ∷ []) ≡ rows_where test row cells ++ (if test c then (row + length cells) ∷ [] else [])
rows_where-push test row [] c =
    let here : row ≡ row + 0 = omega arith in append-nil _ ∙ ap (λ (n : ℕ). if test c then n ∷ [] else []) here
rows_where-push test row (d ∷ cells) c =
    let along : row + 1 + length cells ≡ row + suc (length cells) = omega arith in
    ap (λ (rows : List ℕ). (if test d then row ∷ [] else []) ++ rows)
    (rows_where-push test (row + 1) cells c
    ∙ ap (λ (n : ℕ). rows_where test (row + 1) cells ++ (if test c then n ∷ [] else [])) along)
    ∙ sym (append_assoc (if test d then row ∷ [] else []) (rows_where test (row + 1) cells) _)

paired_kept : (row other : ℕ) (keep : Bool)
    → paired row (if keep then other ∷ [] else []) ≡ (if keep then record { left = row; right = other } ∷ [] else [])
paired_kept row other true = refl
paired_kept row other false = refl

-- a row with those that pass of one more
pub compared_more : {C : Type 0} (test : C → Bool) (others : List C) (i row : ℕ) (other : C) (start before after : List Pair)
    → i < length others → other ≡ get_or others i other → before ≡ start ++ paired row (rows_where test 0 (take i others))
    → after ≡ before ++ (if test other then record { left = row; right = i } ∷ [] else [])
    → after ≡ start ++ paired row (rows_where test 0 (take (i + 1) others))
compared_more {C} test others i row other start before after below read so_far is =
    let place : 0 + length (take i others) ≡ i = omega (arith, length-take-le i others (omega arith)) in
    is
    ∙ ap (λ (ps : List Pair). ps ++ (if test other then record { left = row; right = i } ∷ [] else [])) so_far
    ∙ append_assoc start (paired row (rows_where test 0 (take i others))) _
    ∙ ap (λ (ps : List Pair). start ++ ps)
    (ap (λ (ps : List Pair). paired row (rows_where test 0 (take i others)) ++ ps) (sym (paired_kept row i (test other)))
    ∙ sym (map-append (λ k. record { left = row; right = k }) (rows_where test 0 (take i others)) _)
    ∙ ap (paired row)
    (ap (λ (n : ℕ). rows_where test 0 (take i others) ++ (if test other then n ∷ [] else [])) (sym place)
    ∙ sym (rows_where-push test 0 (take i others) other)
    ∙ ap (rows_where test 0) (sym (longer others i other below read))))

pairs_by-push : {C : Type 0} (test : C → C → Bool) (row : ℕ) (cells : List C) (c : C) (right : List C)
    → pairs_by test row (cells ++ c ∷ []) right ≡ pairs_by test row cells right ++ paired (row + length cells) (rows_where (test c) 0 right)
pairs_by-push test row [] c right =
    let here : row ≡ row + 0 = omega arith in append-nil _ ∙ ap (λ (n : ℕ). paired n (rows_where (test c) 0 right)) here
pairs_by-push test row (d ∷ cells) c right =
    let along : row + 1 + length cells ≡ row + suc (length cells) = omega arith in
    ap (λ (ps : List Pair). paired row (rows_where (test d) 0 right) ++ ps)
    (pairs_by-push test (row + 1) cells c right
    ∙ ap (λ (n : ℕ). pairs_by test (row + 1) cells right ++ paired n (rows_where (test c) 0 right)) along)
    ∙ sym (append_assoc (paired row (rows_where (test d) 0 right)) (pairs_by test (row + 1) cells right) _)

-- the pairs with those of one more row of the left
pub pairs_by_more : {C : Type 0} (test : C → C → Bool) (cells right : List C) (i : ℕ) (cell : C) (before after : List Pair)
    → i < length cells → cell ≡ get_or cells i cell → before ≡ pairs_by test 0 (take i cells) right
    → after ≡ before ++ paired i (rows_where (test cell) 0 right) → after ≡ pairs_by test 0 (take (i + 1) cells) right
pairs_by_more {C} test cells right i cell before after below read so_far is =
    let place : i ≡ 0 + length (take i cells) = omega (arith, length-take-le i cells (omega arith)) in
    is
    ∙ ap (λ (ps : List Pair). ps ++ paired i (rows_where (test cell) 0 right)) so_far
    ∙ ap (λ (n : ℕ). pairs_by test 0 (take i cells) right ++ paired n (rows_where (test cell) 0 right)) place
    ∙ sym (pairs_by-push test 0 (take i cells) cell right)
    ∙ ap (λ (cs : List C). pairs_by test 0 cs right) (sym (longer cells i cell below read))

-- ---- equal cells

pub eq_reversed : (o : Ordering) → is_eq (ordering_reverse o) ≡ is_eq o
eq_reversed Less = refl
eq_reversed Equal = refl
eq_reversed Greater = refl

module _ {C : Type 0} (cmp : C → C → Ordering) (total : IsTotalOrder cmp) where
  rows_equal : (cell : C) (row : ℕ) (cells : List C) → rows_at cmp cell row cells ≡ rows_where (λ d. is_eq (cmp cell d)) row cells
  rows_equal cell row [] = refl
  rows_equal cell row (c ∷ cells) =
      ap (λ (b : Bool). (if b then row ∷ [] else []) ++ rows_at cmp cell (row + 1) cells)
      (ap is_eq (total.antisymm c cell) ∙ eq_reversed (cmp cell c))
      ∙ ap (λ (rows : List ℕ). (if is_eq (cmp cell c) then row ∷ [] else []) ++ rows) (rows_equal cell (row + 1) cells)

  -- pairs of equal cells are those that pass the test of equality
  pub pairs_equal : (row : ℕ) (left right : List C) → pairs_from cmp row left right ≡ pairs_by (λ c d. is_eq (cmp c d)) row left right
  pairs_equal row [] right = refl
  pairs_equal row (c ∷ left) right =
      ap (λ (rows : List ℕ). paired row rows ++ pairs_from cmp (row + 1) left right) (rows_equal c 0 right)
      ∙ ap (λ (ps : List Pair). paired row (rows_where (λ d. is_eq (cmp c d)) 0 right) ++ ps) (pairs_equal (row + 1) left right)

-- ---- cells of one kind

rows_mapped : {C D : Type 0} (test : D → Bool) (f : C → D) (row : ℕ) (cells : List C)
    → rows_where test row (map f cells) ≡ rows_where (λ c. test (f c)) row cells
rows_mapped test f row [] = refl
rows_mapped test f row (c ∷ cells) =
    ap (λ (rows : List ℕ). (if test (f c) then row ∷ [] else []) ++ rows) (rows_mapped test f (row + 1) cells)

-- pairs of changed cells are those of a changed test
pub pairs_mapped : {C D : Type 0} (test : D → D → Bool) (f : C → D) (row : ℕ) (left right : List C)
    → pairs_by test row (map f left) (map f right) ≡ pairs_by (λ c d. test (f c) (f d)) row left right
pairs_mapped test f row [] right = refl
pairs_mapped test f row (c ∷ left) right =
    ap (λ (rows : List ℕ). paired row rows ++ pairs_by test (row + 1) (map f left) (map f right)) (rows_mapped (test (f c)) f 0 right)
    ∙ ap (λ (ps : List Pair). paired row (rows_where (λ d. test (f c) (f d)) 0 right) ++ ps) (pairs_mapped test f (row + 1) left right)

no_rows : {C : Type 0} (test : C → Bool) → ((c : C) → test c ≡ false) → (row : ℕ) (cells : List C) → rows_where test row cells ≡ []
no_rows test fails row [] = refl
no_rows test fails row (c ∷ cells) = rw (fails c, no_rows test fails (row + 1) cells) refl

-- cells of two kinds do not compare
pub no_pairs : {A B C : Type 0} (test : C → C → Bool) (f : A → C) (g : B → C) → ((a : A) (b : B) → test (f a) (g b) ≡ false)
    → (row : ℕ) (left : List A) (right : List B) → pairs_by test row (map f left) (map g right) ≡ []
no_pairs test f g fail row [] right = refl
no_pairs test f g fail row (a ∷ left) right =
    rw (rows_mapped (test (f a)) g 0 right, no_rows (λ b. test (f a) (g b)) (fail a) 0 right, no_pairs test f g fail (row + 1) left right) refl

-- ---- the rows that pairs stand for

-- the rows that pass are those whose cells do
rows_found : {C X : Type 0} (test : C → Bool) (passes : X → Bool) (f : ℕ → X) (row : ℕ) (cells : List C)
    → ((i : ℕ) (c : C) → slice_get cells i ≡ Some c → passes (f (row + i)) ≡ test c)
    → map f (rows_where test row cells) ≡ filter passes (map f (range_with_len row (length cells)))
rows_found test passes f row [] agree = refl
rows_found {C} {X} test passes f row (c ∷ cells) agree =
    let first : row ≡ row + 0 = omega arith in
    let here : passes (f row) ≡ test c = ap (λ i. passes (f i)) first ∙ agree 0 c refl in
    by_test (test c) here
    (rows_found test passes f (row + 1) cells
    (λ i d at. let same : row + 1 + i ≡ row + suc i = omega arith in ap (λ k. passes (f k)) same ∙ agree (suc i) d at))
  where
    by_test : (b : Bool) → passes (f row) ≡ b
        → map f (rows_where test (row + 1) cells) ≡ filter passes (map f (range_with_len (row + 1) (length cells)))
        → map f ((if b then row ∷ [] else []) ++ rows_where test (row + 1) cells)
        ≡ cond (passes (f row)) (f row ∷ filter passes (map f (range_with_len (row + 1) (length cells))))
        (filter passes (map f (range_with_len (row + 1) (length cells))))
    by_test true is rest = rw is (ap (λ xs. f row ∷ xs) rest)
    by_test false is rest = rw is rest

paired_map : {X : Type 0} (h : ℕ → ℕ → X) (row : ℕ) (others : List ℕ) → map (λ (p : Pair). h p.left p.right) (paired row others) ≡ map (h row) others
paired_map h row others = map_map (λ (p : Pair). h p.left p.right) (λ other. record { left = row; right = other }) others

-- so the pairs that pass are those whose cells do
pub pairs_found : {C X : Type 0} (test : C → C → Bool) (passes : X → Bool) (h : ℕ → ℕ → X) (row : ℕ) (left right : List C)
    → ((i : ℕ) (c : C) (j : ℕ) (d : C) → slice_get left i ≡ Some c → slice_get right j ≡ Some d → passes (h (row + i) j) ≡ test c d)
    → map (λ (p : Pair). h p.left p.right) (pairs_by test row left right)
    ≡ flat_map (λ i. filter passes (map (h i) (range_with_len 0 (length right)))) (range_with_len row (length left))
pairs_found test passes h row [] right agree = refl
pairs_found {C} {X} test passes h row (c ∷ left) right agree =
    let first : row ≡ row + 0 = omega arith in
    map-append (λ (p : Pair). h p.left p.right) (paired row (rows_where (test c) 0 right)) (pairs_by test (row + 1) left right)
    ∙ ap (λ (xs : List X). xs ++ map (λ (p : Pair). h p.left p.right) (pairs_by test (row + 1) left right))
    (paired_map h row (rows_where (test c) 0 right)
    ∙ rows_found (test c) passes (h row) 0 right
    (λ j d at. let same : 0 + j ≡ j = omega arith in ap (λ k. passes (h row k)) same ∙ ap (λ i. passes (h i j)) first ∙ agree 0 c j d refl at))
    ∙ ap (λ (xs : List X). filter passes (map (h row) (range_with_len 0 (length right))) ++ xs)
    (pairs_found test passes h (row + 1) left right
    (λ i e j d at there. let same : row + 1 + i ≡ row + suc i = omega arith in ap (λ k. passes (h k j)) same ∙ agree (suc i) e j d at there))

-- the rows of a product whose test passes, by the numbers of the left rows
pub product_where : {X : Type 0} (passes : RowOf X → Bool) (f g : ℕ → RowOf X) (rows others : List ℕ)
    → flat_map (λ i. filter passes (map (λ j. merge (f i) (g j)) others)) rows ≡ filter passes (product (map f rows) (map g others))
product_where {X} passes f g rows others =
    flat_map_same (λ i. filter passes (map (λ j. merge (f i) (g j)) others)) (λ i. filter passes (map (merge (f i)) (map g others))) rows
    (each_always (λ i. filter passes (map (λ j. merge (f i) (g j)) others) ≡ filter passes (map (merge (f i)) (map g others)))
    (λ i. ap (filter passes) (sym (map_map (merge (f i)) g others))) rows)
    ∙ sym (flat_map-map (λ u. filter passes (map (merge u) (map g others))) f rows)
    ∙ sym (filter_flat_map passes (λ u. map (merge u) (map g others)) (map f rows))

-- the pairs of all rows stand for the product
pub product_rows : (left right : Table) (rows others : ℕ)
    → map (pair_row left right) (all_pairs rows others) ≡ product (map (row_of left) (range_with_len 0 rows)) (map (row_of right) (range_with_len 0 others))
unfolding all_pairs
product_rows left right rows others =
    map_flat_map (pair_row left right) (λ row. paired row (range_with_len 0 others)) (range_with_len 0 rows)
    ∙ flat_map_same (λ i. map (pair_row left right) (paired i (range_with_len 0 others)))
    (λ i. map (merge (row_of left i)) (map (row_of right) (range_with_len 0 others))) (range_with_len 0 rows)
    (each_always (λ i. map (pair_row left right) (paired i (range_with_len 0 others)) ≡ map (merge (row_of left i)) (map (row_of right) (range_with_len 0 others)))
    (λ i. paired_map (λ k j. merge (row_of left k) (row_of right j)) i (range_with_len 0 others)
    ∙ sym (map_map (merge (row_of left i)) (row_of right) (range_with_len 0 others))) (range_with_len 0 rows))
    ∙ sym (flat_map-map (λ u. map (merge u) (map (row_of right) (range_with_len 0 others))) (row_of left) (range_with_len 0 rows))

-- ---- rows in range

pub rows_where-below : {C : Type 0} (test : C → Bool) (row : ℕ) (cells : List C) → All (λ r. r < row + length cells) (rows_where test row cells)
rows_where-below test row [] = All-nil (λ r. r < row + 0)
rows_where-below test row (c ∷ cells) =
    All-append (λ r. r < row + suc (length cells)) (if test c then row ∷ [] else []) (rows_where test (row + 1) cells) (here (test c))
    (All-weaker (λ r. r < row + 1 + length cells) (λ r. r < row + suc (length cells)) (λ r below. omega arith)
    (rows_where test (row + 1) cells) (rows_where-below test (row + 1) cells))
  where
    here : (b : Bool) → All (λ r. r < row + suc (length cells)) (if b then row ∷ [] else [])
    here true = All-cons (λ r. r < row + suc (length cells)) row [] (omega arith) (All-nil (λ r. r < row + suc (length cells)))
    here false = All-nil (λ r. r < row + suc (length cells))

paired_in : (left right : Table) (row : ℕ) (others : List ℕ) → row < left.rows → All (λ r. r < right.rows) others
    → All (IsPairOf left right) (paired row others)
paired_in left right row others below all =
    All-map (IsPairOf left right) (λ other. record { left = row; right = other }) others
    (All-weaker (λ r. r < right.rows) (λ r. IsPairOf left right (record { left = row; right = r }))
    (λ r under. record { on_left = below; on_right = under }) others all)

-- the pairs of all rows are in range
pub all_pairs_in : (left right : Table) → All (IsPairOf left right) (all_pairs left.rows right.rows)
unfolding all_pairs
all_pairs_in left right = each 0 left.rows (omega arith)
  where
    each : (row count : ℕ) → row + count ≡ left.rows
        → All (IsPairOf left right) (flat_map (λ i. paired i (range_with_len 0 right.rows)) (range_with_len row count))
    each row zero is = All-nil (IsPairOf left right)
    each row (suc count) is =
        All-append (IsPairOf left right) (paired row (range_with_len 0 right.rows))
        (flat_map (λ i. paired i (range_with_len 0 right.rows)) (range_with_len (row + 1) count))
        (paired_in left right row (range_with_len 0 right.rows) (omega arith)
        (All-weaker (λ r. r < 0 + right.rows) (λ r. r < right.rows) (λ r below. omega arith) (range_with_len 0 right.rows) (range_below 0 right.rows)))
        (each (row + 1) count (omega arith))

-- so are those of cells
pub pairs_by_in : {C : Type 0} (left right : Table) (test : C → C → Bool) (row : ℕ) (cells others : List C) → row + length cells ≡ left.rows
    → length others ≡ right.rows → All (IsPairOf left right) (pairs_by test row cells others)
pairs_by_in left right test row [] others is long = All-nil (IsPairOf left right)
pairs_by_in left right test row (c ∷ cells) others is long =
    All-append (IsPairOf left right) (paired row (rows_where (test c) 0 others)) (pairs_by test (row + 1) cells others)
    (paired_in left right row (rows_where (test c) 0 others) (omega arith)
    (All-weaker (λ r. r < 0 + length others) (λ r. r < right.rows) (λ r below. omega arith) (rows_where (test c) 0 others)
    (rows_where-below (test c) 0 others)))
    (pairs_by_in left right test (row + 1) cells others (omega arith) long)

-- ---- how many

-- a product has as many rows as the numbers of its operands' say
pub product-length : {X : Type 0} (us vs : List (RowOf X)) → length (product us vs) ≡ length us * length vs
product-length [] vs = omega arith
product-length (u ∷ us) vs =
    length-append (map (merge u) vs) (product us vs)
    ∙ ap (λ n. n + length (product us vs)) (length-map vs (merge u))
    ∙ ap (λ n. length vs + n) (product-length us vs)
    ∙ (grind arith)

-- all pairs are as many as the product of the numbers
pub all_pairs-length : (rows others : ℕ) → length (all_pairs rows others) ≡ rows * others
unfolding all_pairs
all_pairs-length rows others = along 0 rows
  where
    along : (row count : ℕ) → length (flat_map (λ i. paired i (range_with_len 0 others)) (range_with_len row count)) ≡ count * others
    along row zero = omega arith
    along row (suc count) =
        length-append (paired row (range_with_len 0 others)) (flat_map (λ i. paired i (range_with_len 0 others)) (range_with_len (row + 1) count))
        ∙ ap (λ n. n + length (flat_map (λ i. paired i (range_with_len 0 others)) (range_with_len (row + 1) count)))
        (length-map (range_with_len 0 others) (λ k. record { left = row; right = k }) ∙ length-range_with_len 0 others)
        ∙ ap (λ n. others + n) (along (row + 1) count)
        ∙ (grind arith)

-- ---- rows without cells

-- the product of rows without cells is so many of them
pub product_bare : {X : Type 0} (n m : ℕ) (e : RowOf X) → merge e e ≡ e → product (replicate n e) (replicate m e) ≡ replicate (n * m) e
product_bare zero m e same = let none : zero * m ≡ zero = omega arith in ap (λ k. replicate k e) (sym none)
product_bare {X} (suc n) m e same =
    let total : m + n * m ≡ suc n * m = (grind arith) in
    ap (λ (rows : List (RowOf X)). rows ++ product (replicate n e) (replicate m e)) (merged_bare m)
    ∙ ap (λ (rows : List (RowOf X)). replicate m e ++ rows) (product_bare n m e same)
    ∙ replicate-append-replicate m (n * m) e ∙ ap (λ k. replicate k e) total
  where
    merged_bare : (k : ℕ) → map (merge e) (replicate k e) ≡ replicate k e
    merged_bare zero = refl
    merged_bare (suc k) = λ i. same i ∷ merged_bare k i

-- a table without columns and counts stands for such rows
pub bare_rows : (columns : List (Option Shown)) (rows : ℕ) → ((a : ℕ) → column_at columns a ≡ None)
    → rows_in columns None rows ≡ replicate rows empty_row
unfolding rows_in
bare_rows columns rows none = along 0 rows
  where
    at_row : (row : ℕ) → row_at columns None row ≡ empty_row
    at_row row = λ j. record { cell = λ a. ap (λ (c : Option Shown). option_and_then (λ (d : Shown). slice_get d.cells row) c) (none a) j; count = None }

    along : (row count : ℕ) → map (row_at columns None) (range_with_len row count) ≡ replicate count empty_row
    along row zero = refl
    along row (suc count) = λ i. at_row row i ∷ along (row + 1) count i
