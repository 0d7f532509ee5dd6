-- What a function makes of the cells of a column at the rows of a group: the least and the greatest, and the sum.
use Rattle.std.proofs.Common.{◌≡◌, refl, sym, ◌∙◌, ap, subst, ℕ, zero, suc, ◌+◌, ◌<◌, ℤ, pos, ◌+ℤ◌, Bool, true, false, cond, List, [], ◌∷◌, ◌++◌, length, map, fold, get_or, take, All, Option, Some, None, slice_get, if◌then◌else◌, arith, inl, inr}
use Rattle.std.specs.Prelude.{IsTrue}
use Rattle.std.proofs.lemmas.Int.{ints}
use Rattle.std.proofs.lemmas.List.{get_or_default, length-map, map-append}
use Rattle.std.proofs.lemmas.List.Elements.{All-head, All-tail, All-weaker}
use Rattle.std.proofs.lemmas.List.MinMax.{IsFirstBest-from_best_of, IsFirstBest-unique}
use Rattle.std.specs.Cmp.{IsStrictWeakOrder, IsTotalOrder}
use Rattle.std.specs.List.{IsFirstBest, best_of, cons_option, reduce}
use Rattle.std.specs.Ordering.{is_gt, is_lt, ordering_reverse}
use Rattle.std.specs.declared.cmp.Ordering.{Ordering}
use Rattle.std.specs.declared.cmp.Ordering.TheVariants.{Less, Equal, Greater}
use Rattle.base_laws.proofs.ListLaws.{All-unmapped}
use Rattle.mq_base.specs.declared.query.Agg.TheVariants.{Sum, Min, Max}
use Rattle.mq_base.specs.declared.query.CmpOp.TheVariants.{Lt, Gt}
use Rattle.mq_base.specs.declared.value.Value.{Value}
use Rattle.mq_base.specs.declared.value.Value.TheVariants.{Int, Text}
use Rattle.mq_base.specs.declared.value.ValueType.{ValueType}
use Rattle.mq_base.specs.declared.value.ValueType.TheVariants as type
use Rattle.mq_base.specs.Value.{IsCell, type_of}
use Rattle.column_table.specs.Cells.{Cell, Plain, cell_step, compares_pair, summed}
use Rattle.column_table.specs.Columns.{Shown, at_rows}
use Rattle.column_table.specs.inside.Labels.{IsGroup}
use Rattle.column_table.specs.Groups.{IsMadeOf, IsSmallInt, IsSummed, folded_at}
use Rattle.column_table.proofs.ColumnLaws.{picked-length, picked-map}
use Rattle.sealed_column.proofs.CellLaws.{above_order, below_order, picked_all}
use Rattle.sealed_column.proofs.SmallLaws.{longer}
use Rattle.sealed_column.specs.Cells.{IsFirstGreatest, IsFirstLeast, number_of, order_at, picked, sum_of}
use Rattle.sealed_column.specs.Seal.{is_value_of}

there : {X : Type 0} (xs : List X) (i : ℕ) → i < length xs → (x : X) × (slice_get xs i ≡ Some x)
there [] i below = absurd (omega arith)
there (x ∷ xs) zero below = (x, refl)
there (x ∷ xs) (suc i) below = there xs i (omega arith)

mapped_at : {C : Type 0} (f : C → Cell) (cells : List C) (i : ℕ) (c : C) → slice_get cells i ≡ Some c → slice_get (map f cells) i ≡ Some (f c)
mapped_at f [] i c at = cc
mapped_at f (d ∷ cells) zero c at = let same : d ≡ c = cc in ap (λ e. Some (f e)) same
mapped_at f (d ∷ cells) (suc i) c at = mapped_at f cells i c at

-- ---- the best cell

module _ {C : Type 0} (f : C → Cell) (cells : List C) (beats : ℕ → ℕ → Bool) (step : Cell → Cell → Cell) (better : C → C → Bool)
    (agree : (r s : ℕ) (c d : C) → slice_get cells r ≡ Some c → slice_get cells s ≡ Some d → beats r s ≡ better c d)
    (steps : (c d : C) → step (f c) (f d) ≡ (if better d c then f d else f c)) where
  -- the cell of the best row is what the steps make of the cells
  best_fold : (row : ℕ) (c : C) → slice_get cells row ≡ Some c → (rows : List ℕ) → All (λ r. r < length cells) rows
      → slice_get (map f cells) (fold (λ b x. cond (beats x b) x b) row rows) ≡ Some (fold step (f c) (picked (map f cells) rows))
  best_fold row c at [] within = mapped_at f cells row c at
  best_fold row c at (next ∷ rows) within =
      let cell = there cells next (All-head (λ r. r < length cells) next rows within) in
      let d : C = cell.0 in
      subst (λ o. slice_get (map f cells) (fold (λ b x. cond (beats x b) x b) (cond (beats next row) next row) rows)
      ≡ Some (fold step (f c) (cons_option o (picked (map f cells) rows)))) (sym (mapped_at f cells next d cell.1))
      (by_test d cell.1 (better d c) (agree next row d c cell.1 at) (steps c d)
      (λ r e there_too. best_fold r e there_too rows (All-tail (λ r. r < length cells) next rows within)))
    where
      by_test : (d : C) → slice_get cells next ≡ Some d → (b : Bool) → beats next row ≡ b → step (f c) (f d) ≡ (if b then f d else f c)
          → ((r : ℕ) (e : C) → slice_get cells r ≡ Some e
          → slice_get (map f cells) (fold (λ b x. cond (beats x b) x b) r rows) ≡ Some (fold step (f e) (picked (map f cells) rows)))
          → slice_get (map f cells) (fold (λ b x. cond (beats x b) x b) (cond (beats next row) next row) rows)
          ≡ Some (fold step (step (f c) (f d)) (picked (map f cells) rows))
      by_test d there_is true wins is rest =
          rw wins (rest next d there_is ∙ ap (λ e. Some (fold step e (picked (map f cells) rows))) (sym is))
      by_test d there_is false loses is rest =
          rw loses (rest row c at ∙ ap (λ e. Some (fold step e (picked (map f cells) rows))) (sym is))

  pub best_cell : IsStrictWeakOrder beats → (rows : List ℕ) (row place : ℕ) → IsFirstBest beats rows (length rows) place
      → row ≡ get_or rows place 0 → All (λ r. r < length cells) rows → 0 < length rows
      → slice_get (map f cells) row ≡ reduce step (picked (map f cells) rows)
  best_cell order [] row place first is within some = absurd (omega arith)
  best_cell order (r ∷ rows) row place first is within some =
      let best = IsFirstBest-from_best_of order r rows in
      let same : place ≡ best.0 = IsFirstBest-unique order (r ∷ rows) (length (r ∷ rows)) place best.0 r first best.1 in
      let below : best.0 < length (r ∷ rows) = best.1.0 in
      let stands : row ≡ best_of beats r rows =
      is ∙ ap (λ p. get_or (r ∷ rows) p 0) same ∙ get_or_default (r ∷ rows) best.0 0 r below ∙ best.2 in
      let cell = there cells r (All-head (λ s. s < length cells) r rows within) in
      ap (slice_get (map f cells)) stands ∙ best_fold r cell.0 cell.1 rows (All-tail (λ s. s < length cells) r rows within)
      ∙ ap (λ o. reduce step (cons_option o (picked (map f cells) rows))) (sym (mapped_at f cells r cell.0 cell.1))

module _ {C : Type 0} (cmp : C → C → Ordering) (total : IsTotalOrder cmp) (f : C → Cell) (cells : List C) (rows : List ℕ) (row : ℕ)
    (within : All (λ r. r < length cells) rows) (some : 0 < length rows) where
  pub least_cell : ((c d : C) → compares_pair Lt (f c) (f d) ≡ is_lt (cmp c d)) → IsFirstLeast cmp cells rows row
      → slice_get (map f cells) row ≡ folded_at Min (map f cells) rows
  least_cell kind is =
      best_cell f cells (λ r s. is_lt (order_at cmp cells r cells s)) (cell_step Min) (λ c d. is_lt (cmp c d))
      (λ r s c d at there_too. λ i. is_lt (order_of r s c d at there_too i)) (λ c d. ap (λ b. if b then f d else f c) (kind d c))
      (below_order cmp total cells) rows row is.place is.first is.stands within some
    where
      order_of : (r s : ℕ) (c d : C) → slice_get cells r ≡ Some c → slice_get cells s ≡ Some d → order_at cmp cells r cells s ≡ cmp c d
      order_of r s c d at there_too = rw (at, there_too) refl

  pub greatest_cell : ((c d : C) → compares_pair Gt (f c) (f d) ≡ is_gt (cmp c d)) → IsFirstGreatest cmp cells rows row
      → slice_get (map f cells) row ≡ folded_at Max (map f cells) rows
  greatest_cell kind is =
      best_cell f cells (λ r s. is_lt (order_at cmp cells s cells r)) (cell_step Max) (λ c d. is_gt (cmp c d))
      (λ r s c d at there_too. (λ i. is_lt (order_of s r d c there_too at i)) ∙ ap is_lt (total.antisymm d c) ∙ turned (cmp c d))
      (λ c d. ap (λ b. if b then f d else f c) (kind d c)) (above_order cmp total cells) rows row is.place is.first is.stands within some
    where
      order_of : (r s : ℕ) (c d : C) → slice_get cells r ≡ Some c → slice_get cells s ≡ Some d → order_at cmp cells r cells s ≡ cmp c d
      order_of r s c d at there_too = rw (at, there_too) refl

      turned : (o : Ordering) → is_lt (ordering_reverse o) ≡ is_gt o
      turned Less = refl
      turned Equal = refl
      turned Greater = refl

-- ---- the sum

small_int : (v : Value) → IsCell type.Int v → type_of v ≡ type.Int
small_int (Int x) small = refl
small_int (Text t) small = absurd small

sum_fold : (x : ℤ) (values : List Value) → All (IsCell type.Int) values
    → fold summed (Plain (Int x)) (map Plain values) ≡ Plain (Int (fold (λ total value. total +ℤ number_of value) x values))
sum_fold x [] small = refl
sum_fold x (Int y ∷ values) small = sum_fold (x +ℤ y) values (All-tail (IsCell type.Int) (Int y) values small)
sum_fold x (Text t ∷ values) small = absurd (All-head (IsCell type.Int) (Text t) values small)

from_none : (x : ℤ) → pos 0 +ℤ x ≡ x
from_none x = omega (arith, ints)

-- the sum of plain INT is what the steps make of them
sum_all : (values : List Value) → All (IsCell type.Int) values → 0 < length values
    → reduce (cell_step Sum) (map Plain values) ≡ Some (Plain (Int (sum_of values)))
sum_all [] small some = absurd (omega arith)
sum_all (Int x ∷ values) small some =
    ap Some (sum_fold x values (All-tail (IsCell type.Int) (Int x) values small)
    ∙ ap (λ z. Plain (Int (fold (λ total value. total +ℤ number_of value) z values))) (sym (from_none x)))
sum_all (Text t ∷ values) small some = absurd (All-head (IsCell type.Int) (Text t) values small)

picked_small : (values : List Value) (rows : List ℕ) → All (IsCell type.Int) values → All (IsCell type.Int) (picked values rows)
picked_small values rows small = picked_all (IsCell type.Int) values rows small

some_picked : {X : Type 0} (xs : List X) (rows : List ℕ) → All (λ r. r < length xs) rows → 0 < length rows → 0 < length (picked xs rows)
some_picked xs rows within some = omega (arith, picked-length xs rows within)

pub sum_cell : (values : List Value) (rows : List ℕ) → All (IsCell type.Int) values → All (λ r. r < length values) rows → 0 < length rows
    → folded_at Sum (map Plain values) rows ≡ Some (Plain (Int (sum_of (picked values rows))))
sum_cell values rows small within some =
    ap (reduce (cell_step Sum)) (picked-map Plain values rows)
    ∙ sum_all (picked values rows) (picked_small values rows small) (some_picked values rows within some)

-- ---- the columns of groups

picked_some : {X : Type 0} (xs : List X) (rows : List ℕ) → All (λ r. r < length xs) rows → map Some (picked xs rows) ≡ map (slice_get xs) rows
picked_some xs [] within = refl
picked_some {X} xs (row ∷ rows) within =
    let cell = there xs row (All-head (λ r. r < length xs) row rows within) in
    subst (λ (o : Option X). map Some (cons_option o (picked xs rows)) ≡ o ∷ map (slice_get xs) rows) (sym cell.1)
    (ap (λ ys. Some cell.0 ∷ ys) (picked_some xs rows (All-tail (λ r. r < length xs) row rows within)))

-- a column at rows whose cells a function gives
pub made_at_rows : (give : List ℕ → Option Cell) (groups : List (List ℕ)) (c d : Shown) (rows : List ℕ)
    → All (λ r. r < length c.cells) rows → map (slice_get c.cells) rows ≡ map give groups → d ≡ at_rows rows c → IsMadeOf give groups c d
made_at_rows give groups c d rows within cells is = record {
  cells = ap (λ (e : Shown). map Some e.cells) is ∙ picked_some c.cells rows within ∙ cells;
  kept = inl (rows, is);
}

value_int : (v : Value) → IsTrue (is_value_of type.Int v) → type_of v ≡ type.Int
value_int (Int x) is = refl
value_int (Text t) is = cc

-- a column of sums
pub made_of_sums : (give : List ℕ → Option Cell) (groups : List (List ℕ)) (c : Shown) (ty : ValueType) (values cells : List Value) → IsSummed c
    → map Some (map Plain values) ≡ map give groups → All (λ v. IsTrue (is_value_of type.Int v)) values → ty ≡ type.Int → cells ≡ values
    → IsMadeOf give groups c (record { scheme = None; ty = ty; cells = map Plain cells })
made_of_sums give groups c ty values cells summed are ints typed is = record {
  cells = ap (λ (vs : List Value). map Some (map Plain vs)) is ∙ are;
  kept = inr (record {
    plain = summed.plain;
    typed = summed.typed;
    values = values;
    ints = All-weaker (λ v. IsTrue (is_value_of type.Int v)) (λ v. type_of v ≡ type.Int) value_int values ints;
    are = λ i. record { scheme = None; ty = typed i; cells = map Plain (is i) };
  });
}

-- one more cell that is given
pub given_more : {X : Type 0} (f : X → Option Cell) (give : List ℕ → Option Cell) (groups : List (List ℕ)) (i : ℕ) (group : List ℕ) (x : X)
    (before after : List X) → i < length groups → group ≡ get_or groups i group → map f before ≡ map give (take i groups) → f x ≡ give group
    → after ≡ before ++ x ∷ [] → map f after ≡ map give (take (i + 1) groups)
given_more {X} f give groups i group x before after below read so_far is pushed =
    ap (map f) pushed ∙ map-append f before (x ∷ []) ∙ (λ k. so_far k ++ is k ∷ [])
    ∙ sym (map-append give (take i groups) (group ∷ [])) ∙ ap (map give) (sym (longer groups i group below read))

-- the cells of a plain column that is summed
pub small_cells : (cells : List Cell) (values : List Value) → cells ≡ map Plain values → All IsSmallInt cells → All (IsCell type.Int) values
small_cells cells values is small = All-unmapped IsSmallInt Plain values (subst (All IsSmallInt) is small)

-- the row that a column answers, where its cells are changed ones
pub least_of : {C : Type 0} (cmp : C → C → Ordering) → IsTotalOrder cmp → (f : C → Cell) → ((c d : C) → compares_pair Lt (f c) (f d) ≡ is_lt (cmp c d))
    → (cells : List C) (all : List Cell) (rows : List ℕ) (row : ℕ) → all ≡ map f cells → IsGroup (length all) rows → IsFirstLeast cmp cells rows row
    → slice_get all row ≡ folded_at Min all rows
least_of cmp total f kind cells all rows row are group is =
    subst (λ ds. slice_get ds row ≡ folded_at Min ds rows) (sym are)
    (least_cell cmp total f cells rows row
    (subst (λ n. All (λ r. r < n) rows) (ap length are ∙ length-map cells f) group.within) group.some kind is)

pub greatest_of : {C : Type 0} (cmp : C → C → Ordering) → IsTotalOrder cmp → (f : C → Cell)
    → ((c d : C) → compares_pair Gt (f c) (f d) ≡ is_gt (cmp c d)) → (cells : List C) (all : List Cell) (rows : List ℕ) (row : ℕ) → all ≡ map f cells
    → IsGroup (length all) rows → IsFirstGreatest cmp cells rows row → slice_get all row ≡ folded_at Max all rows
greatest_of cmp total f kind cells all rows row are group is =
    subst (λ ds. slice_get ds row ≡ folded_at Max ds rows) (sym are)
    (greatest_cell cmp total f cells rows row
    (subst (λ n. All (λ r. r < n) rows) (ap length are ∙ length-map cells f) group.within) group.some kind is)

pub sum_of_cells : (values : List Value) (all : List Cell) (rows : List ℕ) (z : ℤ) → all ≡ map Plain values → All IsSmallInt all
    → IsGroup (length all) rows → z ≡ sum_of (picked values rows) → folded_at Sum all rows ≡ Some (Plain (Int z))
sum_of_cells values all rows z are small group is =
    ap (λ ds. folded_at Sum ds rows) are
    ∙ sum_cell values rows (small_cells all values are small)
    (subst (λ n. All (λ r. r < n) rows) (ap length are ∙ length-map values Plain) group.within) group.some
    ∙ ap (λ y. Some (Plain (Int y))) (sym is)
