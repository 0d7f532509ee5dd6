-- Labels of rows: the first rows with equal cells, and the groups of rows with equal labels.
use Rattle.std.proofs.Common.{◌≡◌, refl, sym, ◌∙◌, ap, subst, ℕ, zero, suc, ◌+◌, ◌<◌, ◌^◌, ◌==◌, Bool, true, false, cond, List, [], ◌∷◌, ◌++◌, length, map, get_or, take, replicate, All, Some, slice_get, if◌then◌else◌, arith}
use Rattle.std.specs.Prelude.{◌&&◌, filter, nat_lt, not}
use Rattle.std.proofs.lemmas.Bool.{eq-eqb, eqb-true}
use Rattle.std.proofs.lemmas.List.{get_or-replicate, length-map, length-replicate, map-append}
use Rattle.std.proofs.lemmas.List.Elements.{All-head, All-tail, All-weaker}
use Rattle.std.proofs.lemmas.List.FromFn.{fill_by_all}
use Rattle.std.proofs.lemmas.Bool.Decides.{nat_tests}
use Rattle.column_table.proofs.PairRows.{range_below}
use Rattle.std.proofs.lemmas.Cmp.{tied_itself}
use Rattle.std.specs.Cmp.{IsTotalOrder}
use Rattle.std.specs.List.{list_all, range_with_len, zip}
use Rattle.std.specs.Ordering.{is_eq, nat_cmp, ordering_reverse, ordering_then}
use Rattle.std.specs.declared.cmp.Ordering.{Ordering}
use Rattle.std.specs.declared.cmp.Ordering.TheVariants.{Less, Equal, Greater}
use Rattle.base_laws.specs.Lists.{firsts}
use Rattle.base_laws.specs.Sets.{has, members, without}
use Rattle.base_laws.proofs.FilterLaws.{firsts_mapped, map_map}
use Rattle.base_laws.proofs.KindLaws.{All-firsts}
use Rattle.base_laws.proofs.MemberLaws.{all_members-empty, all_members-fail, all_members-more, without-within}
use Rattle.mq_base.specs.declared.query.CmpOp.TheVariants.{Eq}
use Rattle.column_table.specs.declared.table.Table.{Table}
use Rattle.column_table.specs.Cells.{Cell, compares_pair}
use Rattle.column_table.specs.Columns.{Shown}
use Rattle.column_table.specs.inside.Labels.{AreLabels, AreLabelsSoFar, TellsEqual, both_equal, first_rows, groups_by, label_pair, own_tests, same_at, same_in, same_rows}
use Rattle.column_table.specs.Groups.{first_in}
use Rattle.column_table.specs.Tables.{column_in}
use Rattle.column_table.proofs.JoinRows.{cell_is, column_long}
use Rattle.row_algebra.specs.Groups.{same_cell}
use Rattle.sealed_column.proofs.SmallLaws.{longer, tied}
use Rattle.sealed_column.specs.declared.rows.Pair.{Pair}
use Rattle.sealed_column.specs.Rows.{groups_of, rows_at}

-- ---- the first row with an equal cell

there : {X : Type 0} (xs : List X) (i : ℕ) → i < length xs → (x : X) × (slice_get xs i ≡ Some x)
there [] i below = absurd (omega arith)
there (x ∷ xs) zero below = (x, refl)
there (x ∷ xs) (suc i) below = there xs i (omega arith)

get_mapped : {X : Type 0} (f : X → ℕ) (xs : List X) (i : ℕ) (x : X) → slice_get xs i ≡ Some x → get_or (map f xs) i 0 ≡ f x
get_mapped f [] i x at = cc
get_mapped f (y ∷ xs) zero x at = let same : y ≡ x = cc in ap f same
get_mapped f (y ∷ xs) (suc i) x at = get_mapped f xs i x at

module _ {C : Type 0} (cmp : C → C → Ordering) (total : IsTotalOrder cmp) where
  -- equal cells have the same rows
  rows_alike : (p q : C) (row : ℕ) (cells : List C) → cmp p q ≡ Equal → rows_at cmp p row cells ≡ rows_at cmp q row cells
  rows_alike p q row [] same = refl
  rows_alike p q row (c ∷ cells) same =
      let here : cmp c p ≡ cmp c q = total.antisymm c p ∙ ap ordering_reverse (total.congr p q c same) ∙ sym (total.antisymm c q) in
      λ i. (if is_eq (here i) then row ∷ [] else []) ++ rows_alike p q (row + 1) cells same i

  -- the row of an equal cell
  record IsRowOf (cell : C) (row : ℕ) (cells : List C) (first : ℕ) : Type 0 where
    place : ℕ
    other : C
    stands : slice_get cells place ≡ Some other
    is : first ≡ row + place
    equal : cmp other cell ≡ Equal

  first_of : (cell : C) (row : ℕ) (cells : List C) (i : ℕ) (c : C) → slice_get cells i ≡ Some c → cmp c cell ≡ Equal
      → IsRowOf cell row cells (first_in (rows_at cmp cell row cells))
  first_of cell row [] i c at same = cc
  first_of cell row (d ∷ cells) i c at same =
      by_test (is_eq (cmp d cell)) refl (λ k rest. first_of cell (row + 1) cells k c rest same)
    where
      later : (k : ℕ) → slice_get (d ∷ cells) k ≡ Some c → is_eq (cmp d cell) ≡ false → (j : ℕ) × (slice_get cells j ≡ Some c)
      later zero first unlike =
          let here : d ≡ c = cc in
          let h : true ≡ false = sym (ap is_eq (ap (λ e. cmp e cell) here ∙ same)) ∙ unlike in cc
      later (suc k) rest unlike = (k, rest)

      by_test : (b : Bool) → is_eq (cmp d cell) ≡ b
          → ((k : ℕ) → slice_get cells k ≡ Some c → IsRowOf cell (row + 1) cells (first_in (rows_at cmp cell (row + 1) cells)))
          → IsRowOf cell row (d ∷ cells) (first_in ((if b then row ∷ [] else []) ++ rows_at cmp cell (row + 1) cells))
      by_test true like rest = record { place = 0; other = d; stands = refl; is = omega arith; equal = tied (cmp d cell) like }
      by_test false unlike rest =
          let next = later i at unlike in
          let found = rest next.0 next.1 in
          let along = found.is in
          record { place = suc found.place; other = found.other; stands = found.stands; is = omega (arith, along); equal = found.equal }

  -- first rows are one where the cells are equal
  firsts_tell : (cells : List C) (i j : ℕ) (c d : C) → slice_get cells i ≡ Some c → slice_get cells j ≡ Some d
      → (first_in (rows_at cmp c 0 cells) == first_in (rows_at cmp d 0 cells)) ≡ is_eq (cmp c d)
  firsts_tell cells i j c d at there_too = by_order (is_eq (cmp c d)) refl
    where
      first : IsRowOf c 0 cells (first_in (rows_at cmp c 0 cells))
      first = first_of c 0 cells i c at (total_itself c)
        where
          total_itself : (x : C) → cmp x x ≡ Equal
          total_itself x = tied_itself total x

      second : IsRowOf d 0 cells (first_in (rows_at cmp d 0 cells))
      second = first_of d 0 cells j d there_too (tied_itself total d)

      alike : first_in (rows_at cmp c 0 cells) ≡ first_in (rows_at cmp d 0 cells) → cmp c d ≡ Equal
      alike same =
          let one = first.is in
          let two = second.is in
          let place : first.place ≡ second.place = omega (arith, one, two, same) in
          let cell : Some first.other ≡ Some second.other = sym first.stands ∙ ap (slice_get cells) place ∙ second.stands in
          let other : first.other ≡ second.other = cc in
          sym (total.congr first.other c d first.equal) ∙ ap (λ e. cmp e d) other ∙ second.equal

      by_test : (b : Bool) → (first_in (rows_at cmp c 0 cells) == first_in (rows_at cmp d 0 cells)) ≡ b → is_eq (cmp c d) ≡ false → b ≡ false
      by_test true same unlike =
          let h : true ≡ false =
          sym (ap is_eq (alike (eqb-true (first_in (rows_at cmp c 0 cells)) (first_in (rows_at cmp d 0 cells)) same))) ∙ unlike in cc
      by_test false differ unlike = refl

      by_order : (b : Bool) → is_eq (cmp c d) ≡ b → (first_in (rows_at cmp c 0 cells) == first_in (rows_at cmp d 0 cells)) ≡ b
      by_order true like =
          eq-eqb (first_in (rows_at cmp c 0 cells)) (first_in (rows_at cmp d 0 cells))
          (ap first_in (rows_alike c d 0 cells (tied (cmp c d) like)))
      by_order false unlike =
          by_test (first_in (rows_at cmp c 0 cells) == first_in (rows_at cmp d 0 cells)) refl unlike

  -- so first rows are labels
  pub first_labels : (cells : List C) (labels : List ℕ) → labels ≡ first_rows cmp cells → (same : ℕ → ℕ → Bool) → TellsEqual cmp cells same
      → AreLabels same (length cells) labels
  first_labels cells labels is same agree = record {
    for_each = ap length is ∙ length-map cells (λ c. first_in (rows_at cmp c 0 cells));
    tell = λ i j below under.
        let first = there cells i below in
        let second = there cells j under in
        (λ k. (label_is i first.0 first.1 k == label_is j second.0 second.1 k))
        ∙ firsts_tell cells i j first.0 second.0 first.1 second.1 ∙ agree i j first.0 second.0 first.1 second.1;
  }
    where
      label_is : (i : ℕ) (c : C) → slice_get cells i ≡ Some c → get_or labels i 0 ≡ first_in (rows_at cmp c 0 cells)
      label_is i c at = ap (λ ls. get_or ls i 0) is ∙ get_mapped (λ e. first_in (rows_at cmp e 0 cells)) cells i c at

  -- one more first row
  pub first_rows_more : (cells : List C) (i : ℕ) (cell : C) (before after : List ℕ) (rows : List ℕ) (first : ℕ) → i < length cells
      → cell ≡ get_or cells i cell → before ≡ map (λ c. first_in (rows_at cmp c 0 cells)) (take i cells) → rows ≡ rows_at cmp cell 0 cells
      → first ≡ first_in rows → after ≡ before ++ first ∷ [] → after ≡ map (λ c. first_in (rows_at cmp c 0 cells)) (take (i + 1) cells)
  first_rows_more cells i cell before after rows first below read so_far own is pushed =
      pushed ∙ (λ k. so_far k ++ (is ∙ ap first_in own) k ∷ [])
      ∙ sym (map-append (λ c. first_in (rows_at cmp c 0 cells)) (take i cells) (cell ∷ []))
      ∙ ap (map (λ c. first_in (rows_at cmp c 0 cells))) (sym (longer cells i cell below read))

-- ---- a column, and two labels

mapped_at : {C : Type 0} (f : C → Cell) (cells : List C) (i : ℕ) (c : C) → slice_get cells i ≡ Some c → slice_get (map f cells) i ≡ Some (f c)
mapped_at f [] i c at = cc
mapped_at f (d ∷ cells) zero c at = let same : d ≡ c = cc in ap (λ e. Some (f e)) same
mapped_at f (d ∷ cells) (suc i) c at = mapped_at f cells i c at

-- labels of the cells of a column are labels of its rows
pub column_labelled : {C : Type 0} (cmp : C → C → Ordering) (f : C → Cell) → ((c d : C) → compares_pair Eq (f c) (f d) ≡ is_eq (cmp c d))
    → (cells : List C) (all : List Cell) → map f cells ≡ all → (labels : List ℕ)
    → ((same : ℕ → ℕ → Bool) → TellsEqual cmp cells same → AreLabels same (length cells) labels) → AreLabels (same_in all) (length all) labels
column_labelled {C} cmp f kind cells all shown labels tells =
    subst (λ ds. AreLabels (same_in ds) (length ds) labels) shown
    (subst (λ n. AreLabels (same_in (map f cells)) n labels) (sym (length-map cells f)) (tells (same_in (map f cells)) agree))
  where
    agree : (i j : ℕ) (c d : C) → slice_get cells i ≡ Some c → slice_get cells j ≡ Some d → is_eq (cmp c d) ≡ same_in (map f cells) i j
    agree i j c d at there_too =
        sym (kind c d) ∙ sym (λ k. same_cell own_tests (mapped_at f cells i c at k) (mapped_at f cells j d there_too k))

zipped_at : (labels others : List ℕ) (i : ℕ) (p : Pair) → slice_get (map label_pair (zip labels others)) i ≡ Some p
    → p ≡ record { left = get_or labels i 0; right = get_or others i 0 }
zipped_at [] others i p at = cc
zipped_at (l ∷ labels) [] i p at = cc
zipped_at (l ∷ labels) (o ∷ others) zero p at = cc
zipped_at (l ∷ labels) (o ∷ others) (suc i) p at = zipped_at labels others i p at

zipped-length : (labels others : List ℕ) → length others ≡ length labels → length (map label_pair (zip labels others)) ≡ length labels
zipped-length [] others same = refl
zipped-length (l ∷ labels) [] same = absurd (omega arith)
zipped-length (l ∷ labels) (o ∷ others) same = ap suc (zipped-length labels others (omega arith))

-- labels of pairs of labels are labels
pub pairs_labelled : (cmp : Pair → Pair → Ordering) → ((p q : Pair) → is_eq (cmp p q) ≡ ((p.left == q.left) && (p.right == q.right)))
    → (labels others : List ℕ) (pairs : List Pair) (made : List ℕ) → length others ≡ length labels → pairs ≡ map label_pair (zip labels others)
    → ((same : ℕ → ℕ → Bool) → TellsEqual cmp pairs same → AreLabels same (length pairs) made) → AreLabels (both_equal labels others) (length labels) made
pairs_labelled cmp kind labels others pairs made long are tells =
    subst (λ n. AreLabels (both_equal labels others) n made) (ap length are ∙ zipped-length labels others long) (tells (both_equal labels others) agree)
  where
    agree : (i j : ℕ) (p q : Pair) → slice_get pairs i ≡ Some p → slice_get pairs j ≡ Some q → is_eq (cmp p q) ≡ both_equal labels others i j
    agree i j p q at there_too =
        let first : p ≡ record { left = get_or labels i 0; right = get_or others i 0 } =
        zipped_at labels others i p (sym (ap (λ ps. slice_get ps i) are) ∙ at) in
        let second : q ≡ record { left = get_or labels j 0; right = get_or others j 0 } =
        zipped_at labels others j q (sym (ap (λ ps. slice_get ps j) are) ∙ there_too) in
        kind p q ∙ (λ k. ((first k).left == (second k).left) && ((first k).right == (second k).right))

-- labels of equal lists
pub both_same : (labels others ls os made : List ℕ) → ls ≡ labels → os ≡ others → AreLabels (both_equal ls os) (length ls) made
    → AreLabels (both_equal labels others) (length labels) made
both_same labels others ls os made first second are =
    subst (λ ms. AreLabels (both_equal ms others) (length ms) made) first (subst (λ ms. AreLabels (both_equal ls ms) (length ls) made) second are)

-- ---- a walk over attributes

-- one label tells nothing yet
pub walk_start : (table : Table) (set : ℕ) (labels : List ℕ) → labels ≡ replicate table.rows 0 → AreLabelsSoFar table set set labels
walk_start table set labels are = record {
  within = record { member = λ i inside. inside };
  for_each = ap length are ∙ length-replicate table.rows 0;
  tell = λ i j below under.
      let first : get_or labels i 0 ≡ 0 = ap (λ ls. get_or ls i 0) are ∙ get_or-replicate table.rows i 0 0 below in
      let second : get_or labels j 0 ≡ 0 = ap (λ ls. get_or ls j 0) are ∙ get_or-replicate table.rows j 0 0 under in
      λ k. (first k == second k) && list_all (same_at table i j) (members set);
}

step : (l p next left : Bool) → (p ≡ true → next ≡ left) → (p ≡ false → left ≡ false) → ((l && p) && next) ≡ (l && left)
step true true next left more fail = more refl
step true false next left more fail = sym (fail refl)
step false p next left more fail = refl

-- the labels with those of one more attribute
pub walk_more : (table : Table) (set left next a : ℕ) (c : Shown) (labels others made : List ℕ) → AreLabelsSoFar table set left labels
    → has left a ≡ true → a < 64 → next ≡ without left (2 ^ a) → column_in table a ≡ Some c
    → AreLabels (same_in c.cells) (length c.cells) others → AreLabels (both_equal labels others) (length labels) made
    → AreLabelsSoFar table set next made
walk_more table set left next a c labels others made so_far inside small is column first second = record {
  within = record { member = λ i member. so_far.within.member i ((without-within left (2 ^ a)).member i (ap (λ s. has s i) (sym is) ∙ member)) };
  for_each = second.for_each ∙ so_far.for_each;
  tell = λ i j below under.
      ap (λ b. b && list_all (same_at table i j) (members next))
      (second.tell i j (subst (λ n. i < n) (sym so_far.for_each) below) (subst (λ n. j < n) (sym so_far.for_each) under)
      ∙ ap (λ b. (get_or labels i 0 == get_or labels j 0) && b)
      (first.tell i j (subst (λ n. i < n) (sym (column_long table a c column)) below) (subst (λ n. j < n) (sym (column_long table a c column)) under)
      ∙ sym (λ k. same_cell own_tests (cell_is table a i c column k) (cell_is table a j c column k))))
      ∙ step (get_or labels i 0 == get_or labels j 0) (same_at table i j a) (list_all (same_at table i j) (members next))
      (list_all (same_at table i j) (members left))
      (λ pass. ap (λ s. list_all (same_at table i j) (members s)) is ∙ all_members-more (same_at table i j) left a pass)
      (λ fail. all_members-fail (same_at table i j) left a inside small fail)
      ∙ so_far.tell i j below under;
}

and_true : (b : Bool) → b ≡ (b && true)
and_true true = refl
and_true false = refl

-- where none is left the labels tell all
pub walk_end : (table : Table) (set left : ℕ) (labels : List ℕ) → AreLabelsSoFar table set left labels → left ≡ 0
    → AreLabels (same_rows table set) table.rows labels
walk_end table set left labels so_far none = record {
  for_each = so_far.for_each;
  tell = λ i j below under.
      and_true (get_or labels i 0 == get_or labels j 0)
      ∙ ap (λ b. (get_or labels i 0 == get_or labels j 0) && b)
      (sym (ap (λ s. list_all (same_at table i j) (members s)) none ∙ all_members-empty (same_at table i j)))
      ∙ so_far.tell i j below under;
}

-- ---- groups by labels

filter_on : {X : Type 0} (P : X → Type 0) (p q : X → Bool) → ((x : X) → P x → p x ≡ q x) → (xs : List X) → All P xs → filter p xs ≡ filter q xs
filter_on P p q agree [] all = refl
filter_on P p q agree (x ∷ xs) all =
    λ i. cond (agree x (All-head P x xs all) i) (x ∷ filter_on P p q agree xs (All-tail P x xs all) i) (filter_on P p q agree xs (All-tail P x xs all) i)

map_on : {X Y : Type 0} (P : X → Type 0) (f g : X → Y) → ((x : X) → P x → f x ≡ g x) → (xs : List X) → All P xs → map f xs ≡ map g xs
map_on P f g agree [] all = refl
map_on P f g agree (x ∷ xs) all = λ i. agree x (All-head P x xs all) i ∷ map_on P f g agree xs (All-tail P x xs all) i

firsts_on : {X : Type 0} (P : X → Type 0) (p q : X → X → Bool) → ((x y : X) → P x → P y → p x y ≡ q x y) → (xs : List X) → All P xs
    → firsts p xs ≡ firsts q xs
firsts_on P p q agree [] all = refl
firsts_on P p q agree (x ∷ xs) all =
    let rest = firsts_on P p q agree xs (All-tail P x xs all) in
    ap (λ ys. x ∷ filter (λ y. not (p x y)) ys) rest
    ∙ ap (λ ys. x ∷ ys)
    (filter_on P (λ y. not (p x y)) (λ y. not (q x y)) (λ y is. ap not (agree x y (All-head P x xs all) is)) (firsts q xs)
    (All-firsts P q xs (All-tail P x xs all)))

rows_filtered : {C : Type 0} (cmp : C → C → Ordering) (c : C) (f : ℕ → C) (row n : ℕ)
    → rows_at cmp c row (map f (range_with_len row n)) ≡ filter (λ j. is_eq (cmp (f j) c)) (range_with_len row n)
rows_filtered cmp c f row zero = refl
rows_filtered cmp c f row (suc n) = by_test (is_eq (cmp (f row) c)) (rows_filtered cmp c f (row + 1) n)
  where
    by_test : (b : Bool)
        → rows_at cmp c (row + 1) (map f (range_with_len (row + 1) n)) ≡ filter (λ j. is_eq (cmp (f j) c)) (range_with_len (row + 1) n)
        → (if b then row ∷ [] else []) ++ rows_at cmp c (row + 1) (map f (range_with_len (row + 1) n))
        ≡ cond b (row ∷ filter (λ j. is_eq (cmp (f j) c)) (range_with_len (row + 1) n)) (filter (λ j. is_eq (cmp (f j) c)) (range_with_len (row + 1) n))
    by_test true rest = ap (λ rows. row ∷ rows) rest
    by_test false rest = rest

-- groups of labels are those of the rows
pub groups_labelled : (cmp : ℕ → ℕ → Ordering) → ((x y : ℕ) → is_eq (cmp x y) ≡ (x == y)) → (labels : List ℕ) (same : ℕ → ℕ → Bool) (rows : ℕ)
    → AreLabels same rows labels → groups_of cmp labels ≡ groups_by same rows
groups_labelled cmp tells labels same rows are =
    let label : ℕ → ℕ = λ i. get_or labels i 0 in
    let range : List ℕ = range_with_len 0 rows in
    let within : All (λ i. i < rows) range = All-weaker (λ i. i < 0 + rows) (λ i. i < rows) (λ i below. omega arith) range (range_below 0 rows) in
    ap (groups_of cmp) (fill_by_all label labels rows 0 are.for_each (λ k below. refl))
    ∙ ap (map (λ c. rows_at cmp c 0 (map label range))) (firsts_mapped (λ c d. is_eq (cmp c d)) label range)
    ∙ map_map (λ c. rows_at cmp c 0 (map label range)) label (firsts (λ i j. is_eq (cmp (label i) (label j))) range)
    ∙ ap (map (λ h. rows_at cmp (label h) 0 (map label range)))
    (firsts_on (λ i. i < rows) (λ i j. is_eq (cmp (label i) (label j))) same (λ i j below under. tells (label i) (label j) ∙ are.tell i j below under)
    range within)
    ∙ map_on (λ i. i < rows) (λ h. rows_at cmp (label h) 0 (map label range)) (λ h. filter (same h) range)
    (λ h below. rows_filtered cmp (label h) label 0 rows
    ∙ filter_on (λ i. i < rows) (λ j. is_eq (cmp (label j) (label h))) (same h)
    (λ j under. tells (label j) (label h) ∙ equal_turned (label j) (label h) ∙ are.tell h j below under) range within)
    (firsts same range) (All-firsts (λ i. i < rows) same range within)
  where
    equal_turned : (x y : ℕ) → (x == y) ≡ (y == x)
    equal_turned x y = grind (arith, nat_tests)

-- numbers, and pairs of them, are equal where their order says so
pub nat_tells : (x y : ℕ) → is_eq (nat_cmp x y) ≡ (x == y)
nat_tells x y = by_tests (nat_lt x y) (x == y) (λ below. grind (arith, nat_tests))
  where
    by_tests : (b d : Bool) → (b ≡ true → d ≡ false) → is_eq (cond b Less (cond d Equal Greater)) ≡ d
    by_tests true true apart = let h : true ≡ false = apart refl in cc
    by_tests true false apart = refl
    by_tests false true apart = refl
    by_tests false false apart = refl

pub pair_tells : (x y z w : ℕ) → is_eq (ordering_then (nat_cmp x y) (nat_cmp z w)) ≡ ((x == y) && (z == w))
pair_tells x y z w = by_order (nat_cmp x y) (nat_cmp z w) ∙ (λ i. nat_tells x y i && nat_tells z w i)
  where
    by_order : (o p : Ordering) → is_eq (ordering_then o p) ≡ (is_eq o && is_eq p)
    by_order Less p = refl
    by_order Equal p = refl
    by_order Greater p = refl
