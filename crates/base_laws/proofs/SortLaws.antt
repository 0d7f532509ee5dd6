-- A list in order is one list: what a sort gives is `in_order` of what it was given.
use Rattle.std.proofs.Common.{◌≡◌, ℕ, suc, ◌+◌, ◌<◌, Bool, true, false, cond, List, [], ◌∷◌, length, map, refl, sym, ◌∙◌, arith, add-one}
use Rattle.std.specs.Prelude.{count_by, slice_index_or, if◌then◌else◌}
use Rattle.std.specs.List.Sorted.{IsPermutation, IsSorted}
use Rattle.std.specs.Ordering.{is_gt, is_lt, is_eq, ordering_reverse, ordering_then}
use Rattle.std.specs.Cmp.{IsTotalOrder}
use Rattle.std.specs.Cmp.Lexicographic.{slice_cmp}
use Rattle.std.specs.declared.cmp.Ordering.{Ordering}
use Rattle.std.specs.declared.cmp.Ordering.TheVariants.{Less, Equal, Greater}
use Rattle.std.proofs.lemmas.Cmp.{upto, tied_itself}
use Rattle.std.proofs.lemmas.List.{get_or-map, length-map}
use Rattle.std.proofs.lemmas.List.Sums.{sum_by-cons}
use Rattle.std.proofs.lemmas.List.Sorted.{sum_by-IsPermutation, sorted_far, ranks_by}
use Rattle.base_laws.specs.Sorting.{inserted, in_order}

-- x is above no member
abbrev IsBelowAll : {T : Type 0} → (T → T → Ordering) → T → List T → Type 0
IsBelowAll cmp x [] = Unit {0}
IsBelowAll cmp x (y ∷ ys) = (is_gt (cmp x y) ≡ false) × IsBelowAll cmp x ys

-- no member is above a later one
abbrev Ascends : {T : Type 0} → (T → T → Ordering) → List T → Type 0
Ascends cmp [] = Unit {0}
Ascends cmp (x ∷ xs) = IsBelowAll cmp x xs × Ascends cmp xs

-- 1 for a tie
abbrev tie : Ordering → ℕ
tie o = cond (is_eq o) 1 0

-- how often a value stands in a list
abbrev times : {T : Type 0} → (T → T → Ordering) → T → List T → ℕ
times cmp x [] = 0
times cmp x (y ∷ ys) = tie (cmp x y) + times cmp x ys

module _ {T : Type 0} {cmp : T → T → Ordering} (total : IsTotalOrder cmp) where
  above_none : (x y : T) (ys : List T) → is_gt (cmp x y) ≡ false → IsBelowAll cmp y ys → IsBelowAll cmp x ys
  above_none x y [] below all = tt
  above_none x y (z ∷ zs) below all = (upto total x y z below all.0, above_none x y zs below all.1)

  inserted_below : (w x : T) (ys : List T) → is_gt (cmp w x) ≡ false → IsBelowAll cmp w ys → IsBelowAll cmp w (inserted cmp x ys)
  inserted_below w x [] below all = (below, tt)
  inserted_below w x (y ∷ ys) below all = by_test (is_gt (cmp x y)) (inserted_below w x ys below all.1)
    where
      by_test : (b : Bool) → IsBelowAll cmp w (inserted cmp x ys)
          → IsBelowAll cmp w (if b then y ∷ inserted cmp x ys else x ∷ y ∷ ys)
      by_test true rest = (all.0, rest)
      by_test false rest = (below, all)

  turned_gt : (o : Ordering) → is_gt o ≡ true → is_gt (ordering_reverse o) ≡ false
  turned_gt Less h = cc
  turned_gt Equal h = refl
  turned_gt Greater h = refl

  not_above : (x y : T) → is_gt (cmp x y) ≡ true → is_gt (cmp y x) ≡ false
  not_above x y above = rw (total.antisymm y x) (turned_gt (cmp x y) above)

  inserted_ascends : (x : T) (ys : List T) → Ascends cmp ys → Ascends cmp (inserted cmp x ys)
  inserted_ascends x [] up = (tt, tt)
  inserted_ascends x (y ∷ ys) up = by_test (is_gt (cmp x y)) refl (inserted_ascends x ys up.1)
    where
      by_test : (b : Bool) → is_gt (cmp x y) ≡ b → Ascends cmp (inserted cmp x ys)
          → Ascends cmp (if b then y ∷ inserted cmp x ys else x ∷ y ∷ ys)
      by_test true above rest = (inserted_below y x ys (not_above x y above) up.0, rest)
      by_test false below rest = ((below, above_none x y ys below up.0), up)

  pub in_order_ascends : (xs : List T) → Ascends cmp (in_order cmp xs)
  in_order_ascends [] = tt
  in_order_ascends (x ∷ xs) = inserted_ascends x (in_order cmp xs) (in_order_ascends xs)

  times-inserted : (z x : T) (ys : List T) → times cmp z (inserted cmp x ys) ≡ tie (cmp z x) + times cmp z ys
  times-inserted z x [] = refl
  times-inserted z x (y ∷ ys) = by_test (is_gt (cmp x y)) (times-inserted z x ys)
    where
      by_test : (b : Bool) → times cmp z (inserted cmp x ys) ≡ tie (cmp z x) + times cmp z ys
          → times cmp z (if b then y ∷ inserted cmp x ys else x ∷ y ∷ ys) ≡ tie (cmp z x) + (tie (cmp z y) + times cmp z ys)
      by_test true same = rw same (omega arith)
      by_test false same = refl

  times-in_order : (z : T) (xs : List T) → times cmp z (in_order cmp xs) ≡ times cmp z xs
  times-in_order z [] = refl
  times-in_order z (x ∷ xs) = rw (times-inserted z x (in_order cmp xs), times-in_order z xs) refl

  less_then : (x y z : T) → cmp x y ≡ Less → is_gt (cmp y z) ≡ false → tie (cmp x z) ≡ 0
  less_then x y z less below = by_second (cmp y z) refl below
    where
      by_second : (o : Ordering) → cmp y z ≡ o → is_gt o ≡ false → tie (cmp x z) ≡ 0
      by_second Less second h = rw (total.trans x y z less second) refl
      by_second Equal second h = rw (total.antisymm x z, ← total.congr y z x second, ← total.antisymm x y, less) refl
      by_second Greater second h = cc

  none_of : (x y : T) (ys : List T) → cmp x y ≡ Less → IsBelowAll cmp y ys → times cmp x ys ≡ 0
  none_of x y [] less all = refl
  none_of x y (z ∷ zs) less all = rw (less_then x y z less all.0, none_of x y zs less all.1) refl

  one_at_least : (x : T) (xs : List T) → times cmp x (x ∷ xs) ≡ 1 + times cmp x xs
  one_at_least x xs = rw (tied_itself total x) refl

  turned_greater : (o : Ordering) → ordering_reverse o ≡ Greater → o ≡ Less
  turned_greater Less h = refl
  turned_greater Equal h = cc
  turned_greater Greater h = cc

  -- two lists in order that hold each value equally often are one
  pub ascending_unique : ((x y : T) → cmp x y ≡ Equal → x ≡ y) → (xs ys : List T) → Ascends cmp xs → Ascends cmp ys
      → ((z : T) → times cmp z xs ≡ times cmp z ys) → xs ≡ ys
  ascending_unique ties [] [] up_x up_y same = refl
  ascending_unique ties [] (y ∷ ys) up_x up_y same =
      let h : 0 ≡ times cmp y (y ∷ ys) = same y in
      let k : times cmp y (y ∷ ys) ≡ 1 + times cmp y ys = one_at_least y ys in absurd (omega arith)
  ascending_unique ties (x ∷ xs) [] up_x up_y same =
      let h : times cmp x (x ∷ xs) ≡ 0 = same x in
      let k : times cmp x (x ∷ xs) ≡ 1 + times cmp x xs = one_at_least x xs in absurd (omega arith)
  ascending_unique ties (x ∷ xs) (y ∷ ys) up_x up_y same =
      by_heads (cmp x y) refl (λ rest. ascending_unique ties xs ys up_x.1 up_y.1 rest)
    where
      by_heads : (o : Ordering) → cmp x y ≡ o → (((z : T) → times cmp z xs ≡ times cmp z ys) → xs ≡ ys) → x ∷ xs ≡ y ∷ ys
      by_heads Less heads rest =
          let h : times cmp x (x ∷ xs) ≡ times cmp x (y ∷ ys) = same x in
          let k : times cmp x (x ∷ xs) ≡ 1 + times cmp x xs = one_at_least x xs in
          let m : tie (cmp x y) ≡ 0 = rw heads refl in
          let n : times cmp x ys ≡ 0 = none_of x y ys heads up_y.0 in absurd (omega arith)
      by_heads Greater heads rest =
          let turned : cmp y x ≡ Less = turned_greater (cmp y x) (sym (total.antisymm x y) ∙ heads) in
          let h : times cmp y (x ∷ xs) ≡ times cmp y (y ∷ ys) = same y in
          let k : times cmp y (y ∷ ys) ≡ 1 + times cmp y ys = one_at_least y ys in
          let m : tie (cmp y x) ≡ 0 = rw turned refl in
          let n : times cmp y xs ≡ 0 = none_of y x xs turned up_x.0 in absurd (omega arith)
      by_heads Equal heads rest =
          let one : x ≡ y = ties x y heads in
          let tails : (z : T) → times cmp z xs ≡ times cmp z ys = λ z. same_rest (tie (cmp z x)) _ _ (rw (← one) at (same z)) in
          let lists : xs ≡ ys = rest tails in cc
        where
          same_rest : (a b c : ℕ) → a + b ≡ a + c → b ≡ c
          same_rest a b c h = omega arith

  times-count_by : (z : T) (xs : List T) → times cmp z xs ≡ count_by (λ y. is_eq (cmp z y)) xs
  times-count_by z [] = refl
  times-count_by z (y ∷ ys) = rw (sum_by-cons (λ y. tie (cmp z y)) y ys, times-count_by z ys) refl

  times-IsPermutation : (z : T) (xs ys : List T) → IsPermutation xs ys → times cmp z ys ≡ times cmp z xs
  times-IsPermutation z xs ys moved =
      rw (times-count_by z xs, times-count_by z ys) (sum_by-IsPermutation (λ y. tie (cmp z y)) xs ys moved)

  gt_from_lt : (x y : T) → is_lt (cmp y x) ≡ false → is_gt (cmp x y) ≡ false
  gt_from_lt x y low = rw (total.antisymm x y) (turned_lt (cmp y x) low)
    where
      turned_lt : (o : Ordering) → is_lt o ≡ false → is_gt (ordering_reverse o) ≡ false
      turned_lt Less h = cc
      turned_lt Equal h = refl
      turned_lt Greater h = refl

  below_from_each : (x : T) (ys : List T) → ((j : ℕ) → j < length ys → is_gt (cmp x (slice_index_or ys j x)) ≡ false)
      → IsBelowAll cmp x ys
  below_from_each x [] each = tt
  below_from_each x (y ∷ ys) each =
      (each 0 (omega arith), below_from_each x ys (λ j below. each (suc j) (omega arith)))

  -- what a sort ensures, member by member
  pub ascends_from_sorted : (xs : List T) → IsSorted cmp xs → Ascends cmp xs
  ascends_from_sorted [] up = tt
  ascends_from_sorted (x ∷ xs) up =
      (below_from_each x xs (λ j below. gt_from_lt x _ (far j below)), ascends_from_sorted xs (tail_up up))
    where
      far : (j : ℕ) → j < length xs → is_lt (cmp (slice_index_or xs j x) x) ≡ false
      far j below = sorted_far (λ a b. is_lt (cmp a b)) (ranks_by total (λ a. a)) (x ∷ xs) up 0 (suc j) x (omega arith) (omega arith)

      tail_up : IsSorted cmp (x ∷ xs) → IsSorted cmp xs
      tail_up all = λ k d low high. next k d high
        where
          next : (k : ℕ) (d : T) → k + 1 < length xs → is_lt (cmp (slice_index_or xs (k + 1) d) (slice_index_or xs k d)) ≡ false
          next k d high =
              let h : is_lt (cmp (slice_index_or (x ∷ xs) (suc k + 1) d) (slice_index_or (x ∷ xs) (suc k) d)) ≡ false =
              all (suc k) d (omega arith) (omega arith) in
              rw add-one (rw add-one at h)

  -- a list in order, with the members of another, is that other's `in_order`
  pub in_order_is : ((x y : T) → cmp x y ≡ Equal → x ≡ y) → (xs ys : List T) → IsPermutation xs ys → IsSorted cmp ys
      → ys ≡ in_order cmp xs
  in_order_is ties xs ys moved up =
      ascending_unique ties ys (in_order cmp xs) (ascends_from_sorted ys up) (in_order_ascends xs)
      (λ z. times-IsPermutation z xs ys moved ∙ sym (times-in_order z xs))

both_tied : (a b : Ordering) → ordering_then a b ≡ Equal → (a ≡ Equal) × (b ≡ Equal)
both_tied Less b tied = cc
both_tied Equal b tied = (refl, tied)
both_tied Greater b tied = cc

-- where ties of members are one member, ties of lists are one list
pub lists_tied : {T : Type 0} (cmp : T → T → Ordering) → ((x y : T) → cmp x y ≡ Equal → x ≡ y)
    → (xs ys : List T) → slice_cmp cmp xs ys ≡ Equal → xs ≡ ys
lists_tied cmp ties [] [] tied = refl
lists_tied cmp ties [] (y ∷ ys) tied = cc
lists_tied cmp ties (x ∷ xs) [] tied = cc
lists_tied cmp ties (x ∷ xs) (y ∷ ys) tied =
    let parts = both_tied (cmp x y) (slice_cmp cmp xs ys) tied in
    let heads : x ≡ y = ties x y parts.0 in
    let tails : xs ≡ ys = lists_tied cmp ties xs ys parts.1 in cc

-- a list that is sorted by what a function shows of its members shows a sorted list
pub shown_sorted : {S T : Type 0} (show : S → T) (cmp : T → T → Ordering) (xs : List S)
    → IsSorted (λ a b. cmp (show a) (show b)) xs → IsSorted cmp (map show xs)
shown_sorted show cmp [] up = λ k d low high. absurd (omega arith)
shown_sorted show cmp (x ∷ xs) up = λ k d low high. at_place k d (rw length-map at high)
  where
    at_place : (k : ℕ) (d : _) → k + 1 < length (x ∷ xs)
        → is_lt (cmp (slice_index_or (map show (x ∷ xs)) (k + 1) d) (slice_index_or (map show (x ∷ xs)) k d)) ≡ false
    at_place k d high =
        let below : k < length (x ∷ xs) = omega arith in
        rw (get_or-map show (x ∷ xs) (k + 1) x d high, get_or-map show (x ∷ xs) k x d below) (up k x (omega arith) high)
