-- Laws of columns as lists: cells at two rows compare as their values do, and listed rows pick cells and values alike.
use Rattle.std.proofs.Common.{◌≡◌, ℕ, zero, suc, ◌+◌, ◌<◌, Bool, List, [], ◌∷◌, ◌++◌, length, get_or, take, filter_map, slice_get, Option, Some, None, true, false, pos, ◌+ℤ◌, refl, sym, ◌∙◌, ap, subst, arith}
use Rattle.std.proofs.lemmas.List.{get_or_default, take_more}
use Rattle.std.proofs.lemmas.List.Elements.{All-nil, All-cons, filter_map-append}
use Rattle.std.proofs.lemmas.List.MinMax.{IsFirstBest-keeps, IsFirstBest-takes, IsStrictWeakOrder-flip, ranks_by}
use Rattle.std.proofs.lemmas.List.Sums.{fold-append}
use Rattle.std.proofs.lemmas.Option.{slice_get-get_or, slice_get_within, get_or_from_slice_get}
use Rattle.std.specs.Cmp.{IsStrictWeakOrder, IsTotalOrder}
use Rattle.std.specs.Cmp.Lexicographic.{options_total}
use Rattle.std.specs.List.{All, AllZip, IsFirstBest, cons_option}
use Rattle.std.specs.Option.{option_cmp}
use Rattle.std.specs.Ordering.{is_lt}
use Rattle.std.specs.declared.cmp.Ordering.{Ordering}
use Rattle.mq_base.specs.declared.value.Value.{Value}
use Rattle.mq_base.specs.declared.value.ValueType.{ValueType}
use Rattle.mq_base.specs.Value.{type_of, value_cmp}
use Rattle.sealed_column.specs.Cells.{IsFirstGreatest, IsFirstLeast, OpensAt, OpenTo, number_of, order_at, picked, sum_of}

-- ---- places of two lists that belong together

-- at each place both lists have something, or neither has
abbrev pub Together : {A B : Type 0} → (A → B → Type 0) → Option A → Option B → Type 0
Together R None None = Unit {0}
Together R None (Some b) = ⊥
Together R (Some a) None = ⊥
Together R (Some a) (Some b) = R a b

pub together_at : {A B : Type 0} (R : A → B → Type 0) (xs : List A) (ys : List B) → AllZip R xs ys → (k : ℕ)
    → Together R (slice_get xs k) (slice_get ys k)
together_at R [] [] all k = tt
together_at R [] (y ∷ ys) all k = absurd all
together_at R (x ∷ xs) [] all k = absurd all
together_at R (x ∷ xs) (y ∷ ys) all zero = all.0
together_at R (x ∷ xs) (y ∷ ys) all (suc k) = together_at R xs ys all.1 k

-- ---- comparisons

-- a test of the order of cells is that of the order of their values, at any two rows
pub order_agrees : {C B : Type 0} (cmp : C → C → Ordering) (test : Ordering → B) (opens : C → Value → Type 0) (ty : ValueType)
    → ((c d : C) (v w : Value) → opens c v → opens d w → type_of v ≡ type_of w → test (cmp c d) ≡ test (value_cmp v w))
    → (cells : List C) (values : List Value) (others : List C) (more : List Value)
    → OpenTo opens ty cells values → OpenTo opens ty others more → (row other_row : ℕ)
    → test (order_at cmp cells row others other_row) ≡ test (order_at value_cmp values row more other_row)
order_agrees {C} {B} cmp test opens ty law cells values others more first second row other_row =
    by_cells (slice_get cells row) (slice_get values row) (slice_get others other_row) (slice_get more other_row)
    (together_at (OpensAt opens ty) cells values first row) (together_at (OpensAt opens ty) others more second other_row)
  where
    by_cells : (c : Option C) (v : Option Value) (d : Option C) (w : Option Value)
        → Together (OpensAt opens ty) c v → Together (OpensAt opens ty) d w
        → test (option_cmp cmp c d) ≡ test (option_cmp value_cmp v w)
    by_cells None None None None left right = refl
    by_cells None None (Some d) (Some w) left right = refl
    by_cells (Some c) (Some v) None None left right = refl
    by_cells (Some c) (Some v) (Some d) (Some w) left right = law c d v w left.opened right.opened (left.typed ∙ sym right.typed)
    by_cells None None None (Some w) left right = absurd right
    by_cells None None (Some d) None left right = absurd right
    by_cells (Some c) (Some v) None (Some w) left right = absurd right
    by_cells (Some c) (Some v) (Some d) None left right = absurd right
    by_cells None (Some v) d w left right = absurd left
    by_cells (Some c) None d w left right = absurd left

-- so the first least and the first greatest row are those of the values
module _ {C : Type 0} (cmp : C → C → Ordering) (opens : C → Value → Type 0) (ty : ValueType)
    (law : (c d : C) (v w : Value) → opens c v → opens d w → type_of v ≡ type_of w → cmp c d ≡ value_cmp v w)
    (cells : List C) (values : List Value) (opened : OpenTo opens ty cells values) (rows : List ℕ) (row : ℕ) where
  pub least_agrees : IsFirstLeast cmp cells rows row → IsFirstLeast value_cmp values rows row
  least_agrees is = record {
    place = is.place;
    first = subst (λ (beats : ℕ → ℕ → Bool). IsFirstBest beats rows (length rows) is.place)
        (λ i r s. is_lt (order_agrees cmp (λ o. o) opens ty law cells values cells values opened opened r s i)) is.first;
    stands = is.stands;
  }

  pub greatest_agrees : IsFirstGreatest cmp cells rows row → IsFirstGreatest value_cmp values rows row
  greatest_agrees is = record {
    place = is.place;
    first = subst (λ (beats : ℕ → ℕ → Bool). IsFirstBest beats rows (length rows) is.place)
        (λ i r s. is_lt (order_agrees cmp (λ o. o) opens ty law cells values cells values opened opened s r i)) is.first;
    stands = is.stands;
  }

-- ---- the place of the least and of the greatest cell

-- the tests of which row is before: that its cell is below, and that it is above
pub below_order : {C : Type 0} (cmp : C → C → Ordering) → IsTotalOrder cmp → (cells : List C)
    → IsStrictWeakOrder (λ r s. is_lt (order_at cmp cells r cells s))
below_order cmp total cells = ranks_by (options_total total) (slice_get cells)

pub above_order : {C : Type 0} (cmp : C → C → Ordering) → IsTotalOrder cmp → (cells : List C)
    → IsStrictWeakOrder (λ r s. is_lt (order_at cmp cells s cells r))
above_order cmp total cells = IsStrictWeakOrder-flip (λ r s. is_lt (order_at cmp cells r cells s)) (below_order cmp total cells)

-- one more row, which is before the best one or not
pub place_takes : (beats : ℕ → ℕ → Bool) → IsStrictWeakOrder beats → (rows : List ℕ) (at best now : ℕ) → at < length rows
    → IsFirstBest beats rows at best → beats (get_or rows at 0) (get_or rows best 0) ≡ true → now ≡ at
    → IsFirstBest beats rows (at + 1) now
place_takes beats order rows at best now room first test is =
    subst (λ n. IsFirstBest beats rows (at + 1) n) (sym is)
    (IsFirstBest-takes order rows at best (get_or rows at 0) (get_or rows best 0) first room
    (get_or_default rows at 0 _ room) (get_or_default rows best 0 _ (omega (arith, first.0))) test)

pub place_keeps : (beats : ℕ → ℕ → Bool) → IsStrictWeakOrder beats → (rows : List ℕ) (at best now : ℕ) → at < length rows
    → IsFirstBest beats rows at best → beats (get_or rows at 0) (get_or rows best 0) ≡ false → now ≡ best
    → IsFirstBest beats rows (at + 1) now
place_keeps beats order rows at best now room first test is =
    subst (λ n. IsFirstBest beats rows (at + 1) n) (sym is)
    (IsFirstBest-keeps order rows at best (get_or rows at 0) (get_or rows best 0) first room
    (get_or_default rows at 0 _ room) (get_or_default rows best 0 _ (omega (arith, first.0))) test)

-- ---- the cells at listed rows

-- one more row
picked_one : {C : Type 0} (cells : List C) (rows : List ℕ) (i : ℕ) (cell : C) → i < length rows
    → get_or rows i 0 < length cells → cell ≡ get_or cells (get_or rows i 0) cell
    → picked cells (take i rows) ++ cell ∷ [] ≡ picked cells (take (i + 1) rows)
picked_one cells rows i cell below within read =
    let here : slice_get cells (get_or rows i 0) ≡ Some cell =
    slice_get-get_or cells (get_or rows i 0) cell within ∙ ap Some (sym read) in
    let one : filter_map (slice_get cells) (get_or rows i 0 ∷ []) ≡ cell ∷ [] = ap (λ o. cons_option o []) here in
    rw (take_more rows i 0 below, filter_map-append (slice_get cells) (take i rows) (get_or rows i 0 ∷ []), one) refl

pub picked_more : {C : Type 0} (cells : List C) (rows : List ℕ) (i : ℕ) (copy cell : C) (before after : List C) → i < length rows
    → get_or rows i 0 < length cells → cell ≡ get_or cells (get_or rows i 0) cell → copy ≡ cell
    → before ≡ picked cells (take i rows) → after ≡ before ++ copy ∷ [] → after ≡ picked cells (take (i + 1) rows)
picked_more {C} cells rows i copy cell before after below within read same so_far pushed =
    pushed
    ∙ ap (λ (c : C). before ++ c ∷ []) same
    ∙ ap (λ (cs : List C). cs ++ cell ∷ []) so_far
    ∙ picked_one cells rows i cell below within read

-- the sum of one more row
pub sum_more : (cells : List Value) (rows : List ℕ) (i : ℕ) (cell : Value) → i < length rows
    → get_or rows i 0 < length cells → cell ≡ get_or cells (get_or rows i 0) cell
    → sum_of (picked cells (take (i + 1) rows)) ≡ sum_of (picked cells (take i rows)) +ℤ number_of cell
sum_more cells rows i cell below within read =
    ap sum_of (sym (picked_one cells rows i cell below within read))
    ∙ fold-append (λ total value. total +ℤ number_of value) (pos 0) (picked cells (take i rows)) (cell ∷ [])

-- what holds of each cell holds of each that is picked
pub picked_all : {C : Type 0} (P : C → Type 0) (cells : List C) (rows : List ℕ) → All P cells → All P (picked cells rows)
picked_all P cells [] all = All-nil P
picked_all {C} P cells (row ∷ rows) all =
    by_cell (slice_get cells row) (λ cell is. subst P (get_or_from_slice_get cells row cell cell is) (at_row cell is)) (picked_all P cells rows all)
  where
    at_row : (cell : C) → slice_get cells row ≡ Some cell → P (get_or cells row cell)
    at_row cell is = all row cell (slice_get_within cells row cell is)

    by_cell : (o : Option C) → ((cell : C) → o ≡ Some cell → P cell) → All P (picked cells rows) → All P (cons_option o (picked cells rows))
    by_cell None here rest = rest
    by_cell (Some cell) here rest = All-cons P cell (picked cells rows) (here cell refl) rest

-- cells and values that belong together are picked together
pub picked_together : {A B : Type 0} (R : A → B → Type 0) (xs : List A) (ys : List B) (rows : List ℕ) → AllZip R xs ys
    → AllZip R (picked xs rows) (picked ys rows)
picked_together R xs ys [] all = tt
picked_together {A} {B} R xs ys (row ∷ rows) all =
    by_pair (slice_get xs row) (slice_get ys row) (together_at R xs ys all row) (picked_together R xs ys rows all)
  where
    by_pair : (a : Option A) (b : Option B) → Together R a b → AllZip R (picked xs rows) (picked ys rows)
        → AllZip R (cons_option a (picked xs rows)) (cons_option b (picked ys rows))
    by_pair None None here rest = rest
    by_pair None (Some b) here rest = absurd here
    by_pair (Some a) None here rest = absurd here
    by_pair (Some a) (Some b) here rest = (here, rest)
