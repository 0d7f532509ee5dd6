-- Laws of choosing: the rows that are kept one by one, and that constants compare beside the cells of their column as they are to.
use Rattle.std.proofs.Common.{◌≡◌, refl, sym, ◌∙◌, ap, subst, ℕ, zero, suc, ◌+◌, ◌<◌, ◌≤◌, Bool, false, cond, List, [], ◌∷◌, ◌++◌, length, map, filter, All, Option, Some, None, option_map, slice_get, if◌then◌else◌, arith}
use Rattle.std.specs.Prelude.{option_and_then}
use Rattle.std.specs.Cmp.Lexicographic.{slice_cmp}
use Rattle.std.specs.Ordering.{nat_cmp}
use Rattle.std.specs.List.{range_with_len}
use Rattle.std.proofs.lemmas.List.FromFn.{filter_of_map_range_with_len_more, length-range_with_len}
use Rattle.std.proofs.lemmas.List.Elements.{All-cons, All-filter, All-nil, filter_agree}
use Rattle.std.proofs.lemmas.Option.{slice_get-map}
use Rattle.base_laws.proofs.FilterLaws.{filter_constant}
use Rattle.base_laws.proofs.ListLaws.{filter-length}
use Rattle.mq_base.specs.declared.query.CmpOp.{CmpOp}
use Rattle.mq_base.specs.declared.table.Scheme.{Scheme}
use Rattle.mq_base.specs.declared.table.Scheme.TheVariants as scheme
use Rattle.mq_base.specs.declared.value.Value.{Value}
use Rattle.column_table.specs.Cells.{Cell, Plain, Sealed, Seals, compares_constant, compares_pair}
use Rattle.column_table.specs.Columns.{Shown, cell_at, column_at, shown}
use Rattle.column_table.specs.Chosen.{AreChosen, IsSealedBeside}
use Rattle.column_table.specs.inside.Choosing.{constant_cell}
use Rattle.row_algebra.specs.Tests.{both_pass, holds, passes}
use Rattle.sealed_column.specs.declared.column.AnyColumn.{AnyColumn}
use Rattle.sealed_column.specs.declared.column.AnyColumn.TheVariants as column
use Rattle.sealed_column.specs.Seal.{seal}

map_same_list : {X : Type 0} (xs : List X) → map (λ x. x) xs ≡ xs
map_same_list [] = refl
map_same_list (x ∷ xs) = ap (λ ys. x ∷ ys) (map_same_list xs)

-- one more row that may be kept
pub chosen_more : (p : ℕ → Bool) (n : ℕ)
    → filter p (range_with_len 0 (n + 1)) ≡ filter p (range_with_len 0 n) ++ cond (p n) (n ∷ []) []
chosen_more p n =
    ap (filter p) (sym (map_same_list (range_with_len 0 (n + 1))))
    ∙ filter_of_map_range_with_len_more p (λ x. x) 0 n n (omega arith)
    ∙ ap (λ xs. filter p xs ++ cond (p n) (n ∷ []) []) (map_same_list (range_with_len 0 n))

-- the rows that are kept, with one more that is tested
pub kept_more : (p : ℕ → Bool) (row : ℕ) (before after : List ℕ) (test : Bool) → before ≡ filter p (range_with_len 0 row) → test ≡ p row
    → after ≡ before ++ (if test then row ∷ [] else []) → after ≡ filter p (range_with_len 0 (row + 1))
kept_more p row before after test so_far is pushed =
    pushed ∙ (λ i. so_far i ++ (if is i then row ∷ [] else [])) ∙ sym (chosen_more p row)

-- ---- constants

sealed_compares : (seals : Seals) (key : List ℕ) (a : ℕ) (cmp : CmpOp) (x : Value) (by : Scheme)
    → seals.seal a 0 0 x ≡ seal by key 0 0 x → (o : Option (List ℕ))
    → passes (compares_constant seals a cmp x) (option_map Sealed o)
    ≡ both_pass (compares_pair cmp) (option_map Sealed o) (Some (Sealed (seal by key 0 0 x)))
sealed_compares seals key a cmp x by same None = refl
sealed_compares seals key a cmp x by same (Some c) = ap (λ d. holds cmp (slice_cmp nat_cmp c d)) same

-- a constant compares with the cells of a column as its cell beside them does
constant_compares : (seals : Seals) (key : List ℕ) (a : ℕ) (cmp : CmpOp) (x : Value) (c : AnyColumn)
    → IsSealedBeside seals key a x (Some (shown c)) → (row : ℕ)
    → passes (compares_constant seals a cmp x) (slice_get (shown c).cells row)
    ≡ both_pass (compares_pair cmp) (slice_get (shown c).cells row) (Some (constant_cell key x (shown c).scheme))
constant_compares seals key a cmp x (column.Clear c) beside row =
    rw (slice_get-map Plain c.cells row) (by_value (slice_get c.cells row))
  where
    by_value : (o : Option Value) → passes (compares_constant seals a cmp x) (option_map Plain o)
        ≡ both_pass (compares_pair cmp) (option_map Plain o) (Some (Plain x))
    by_value None = refl
    by_value (Some v) = refl
constant_compares seals key a cmp x (column.Rnd c) beside row =
    rw (slice_get-map Sealed c.cells row) (sealed_compares seals key a cmp x scheme.Rnd beside (slice_get c.cells row))
constant_compares seals key a cmp x (column.Det c) beside row =
    rw (slice_get-map Sealed c.cells row) (sealed_compares seals key a cmp x scheme.Det beside (slice_get c.cells row))
constant_compares seals key a cmp x (column.Ope c) beside row =
    rw (slice_get-map Sealed c.cells row) (sealed_compares seals key a cmp x scheme.Ope beside (slice_get c.cells row))

-- the rows that compare so with a constant are those that compare so with its cell
pub constant_kept : (seals : Seals) (key : List ℕ) (a : ℕ) (cmp : CmpOp) (x : Value) (c : AnyColumn) (columns : List (Option Shown))
    (rows : ℕ) (other : Option Cell) (kept : List ℕ) → column_at columns a ≡ Some (shown c)
    → other ≡ Some (constant_cell key x (shown c).scheme) → IsSealedBeside seals key a x (column_at columns a)
    → kept ≡ filter (λ row. both_pass (compares_pair cmp) (cell_at columns row a) other) (range_with_len 0 rows)
    → kept ≡ filter (λ row. passes (compares_constant seals a cmp x) (cell_at columns row a)) (range_with_len 0 rows)
constant_kept seals key a cmp x c columns rows other kept here is beside kept_is =
    kept_is
    ∙ filter_agree (λ row. both_pass (compares_pair cmp) (cell_at columns row a) other)
    (λ row. passes (compares_constant seals a cmp x) (cell_at columns row a))
    (λ row. by_column (column_at columns a) here row) (range_with_len 0 rows)
  where
    by_column : (o : Option Shown) → o ≡ Some (shown c) → (row : ℕ)
        → both_pass (compares_pair cmp) (option_and_then (λ (d : Shown). slice_get d.cells row) o) other
        ≡ passes (compares_constant seals a cmp x) (option_and_then (λ (d : Shown). slice_get d.cells row) o)
    by_column o same row =
        rw (same, is) (sym (constant_compares seals key a cmp x c (subst (IsSealedBeside seals key a x) here beside) row))

-- no row compares with a constant where there is no column
pub constant_missed : (seals : Seals) (a : ℕ) (cmp : CmpOp) (x : Value) (columns : List (Option Shown)) (rows : ℕ) → column_at columns a ≡ None
    → [] ≡ filter (λ row. passes (compares_constant seals a cmp x) (cell_at columns row a)) (range_with_len 0 rows)
constant_missed seals a cmp x columns rows missing =
    sym (filter_agree (λ row. passes (compares_constant seals a cmp x) (cell_at columns row a)) (λ row. false)
    (λ row. ap (λ (o : Option Shown). passes (compares_constant seals a cmp x) (option_and_then (λ (d : Shown). slice_get d.cells row) o)) missing)
    (range_with_len 0 rows)
    ∙ filter_constant false (range_with_len 0 rows))

-- ---- chosen rows

pub none_chosen : (rows : ℕ) → AreChosen rows []
none_chosen rows = record { test = λ row. false; are = sym (filter_constant false (range_with_len 0 rows)) }

all_below : (start rows : ℕ) → All (λ row. row < start + rows) (range_with_len start rows)
all_below start zero = All-nil (λ row. row < start + zero)
all_below start (suc rows) =
    All-cons (λ row. row < start + suc rows) start (range_with_len (start + 1) rows) (omega arith)
    (subst (λ n. All (λ row. row < n) (range_with_len (start + 1) rows)) (omega arith) (all_below (start + 1) rows))

-- chosen rows are rows of the table, and no more of them
pub chosen_within : (rows : ℕ) (kept : List ℕ) → AreChosen rows kept → All (λ row. row < rows) kept
chosen_within rows kept are =
    subst (All (λ row. row < rows)) (sym are.are) (All-filter are.test (λ row. row < rows) (range_with_len 0 rows)
    (subst (λ n. All (λ row. row < n) (range_with_len 0 rows)) (omega arith) (all_below 0 rows)))

pub chosen_few : (rows : ℕ) (kept : List ℕ) → AreChosen rows kept → length kept ≤ rows
chosen_few rows kept are =
    let fewer = filter-length are.test (range_with_len 0 rows) in
    let all = length-range_with_len 0 rows in
    let is : length kept ≡ length (filter are.test (range_with_len 0 rows)) = ap length are.are in
    omega (arith, fewer, all, is)
