-- Laws of columns of which some are let go: the rows that the others stand for are cut to their attributes.
use Rattle.std.proofs.Common.{◌≡◌, refl, sym, ◌∙◌, ap, subst, ℕ, zero, suc, ◌+◌, ◌≤◌, Bool, true, false, not, ◌&&◌, IsTrue, List, [], ◌∷◌, length, map, set, All, Option, None, slice_get, ◌⊎◌, inl, inr, arith}
use Rattle.std.specs.Prelude.{nat_lt, option_and_then, if◌then◌else◌}
use Rattle.std.specs.List.{range_with_len}
use Rattle.std.proofs.lemmas.Bool.Decides.{nat_tests}
use Rattle.std.proofs.lemmas.Bool.{cases_eq}
use Rattle.std.proofs.lemmas.List.{get_or-set_other}
use Rattle.std.proofs.lemmas.List.Elements.{All-from_get_or}
use Rattle.base_laws.specs.Sets.{has}
use Rattle.base_laws.proofs.FilterLaws.{map_agree, map_map}
use Rattle.column_table.specs.Columns.{Shown, cell_at, column_at, count_at, has_rows, row_at, rows_in}
use Rattle.column_table.proofs.ColumnLaws.{filled_at}
use Rattle.row_algebra.specs.Rows.{cut}

-- the column of an attribute, of which those before a place are let go where they are not kept
abbrev pub kept_to : List (Option Shown) → ℕ → ℕ → ℕ → Option Shown
kept_to columns kept place a = if nat_lt a place && not (has kept a) then None else column_at columns a

-- a place that is not there
past_end : (columns : List (Option Shown)) (a : ℕ) → length columns ≤ a → column_at columns a ≡ None
past_end [] a past = refl
past_end (c ∷ columns) zero past = absurd (omega (arith, past))
past_end (c ∷ columns) (suc a) past = past_end columns a (omega (arith, past))

-- at another place nothing changes
before_more : (a place : ℕ) → (a ≡ place → ⊥) → nat_lt a (place + 1) ≡ nat_lt a place
before_more a place other = by_tests (nat_lt a (place + 1)) (nat_lt a place) refl refl
  where
    by_tests : (b c : Bool) → nat_lt a (place + 1) ≡ b → nat_lt a place ≡ c → b ≡ c
    by_tests true true is are = refl
    by_tests false false is are = refl
    by_tests true false is are = absurd (other (grind (arith, nat_tests, is, are)))
    by_tests false true is are = absurd (grind (arith, nat_tests, is, are))

kept_elsewhere : (columns : List (Option Shown)) (kept place a : ℕ) → (a ≡ place → ⊥)
    → kept_to columns kept place a ≡ kept_to columns kept (place + 1) a
kept_elsewhere columns kept place a other =
    ap (λ b. if b && not (has kept a) then None else column_at columns a) (sym (before_more a place other))

no_and : (b : Bool) → (b && false) ≡ false
no_and true = refl
no_and false = refl

-- at the place of a column that is kept nothing changes, and one that is not is let go
kept_here : (columns : List (Option Shown)) (kept place a : ℕ) → has kept a ≡ true → kept_to columns kept place a ≡ column_at columns a
kept_here columns kept place a is =
    ap (λ b. if nat_lt a place && not b then None else column_at columns a) is
    ∙ ap (λ b. if b then None else column_at columns a) (no_and (nat_lt a place))

gone_here : (columns : List (Option Shown)) (kept place : ℕ) → has kept place ≡ false → kept_to columns kept (place + 1) place ≡ None
gone_here columns kept place is =
    ap (λ b. if nat_lt place (place + 1) && not b then None else column_at columns place) is
    ∙ ap (λ b. if b && true then None else column_at columns place) (past place)
  where
    past : (n : ℕ) → nat_lt n (n + 1) ≡ true
    past n = grind (arith, nat_tests)

-- before the first one
pub kept_start : (columns : List (Option Shown)) (kept a : ℕ) → column_at columns a ≡ kept_to columns kept 0 a
kept_start columns kept a = ap (λ b. if b && not (has kept a) then None else column_at columns a) (sym none)
  where
    none : nat_lt a 0 ≡ false
    none = grind (arith, nat_tests)

-- what is let go is not there
emptied : (columns : List (Option Shown)) (a : ℕ) → column_at (set columns a None) a ≡ None
emptied [] a = refl
emptied (c ∷ columns) zero = refl
emptied (c ∷ columns) (suc a) = emptied columns a

-- past a column that is kept, or let go
pub kept_more : (columns now next : List (Option Shown)) (kept place : ℕ) (keep : Bool)
    → ((a : ℕ) → column_at now a ≡ kept_to columns kept place a) → keep ≡ has kept place
    → next ≡ (if keep then now else set now place None) → (a : ℕ) → column_at next a ≡ kept_to columns kept (place + 1) a
kept_more columns now next kept place true before is made a =
    ap (λ cs. column_at cs a) made ∙ before a ∙ by_place (cases_eq a place)
  where
    by_place : (a ≡ place) ⊎ (a ≡ place → ⊥) → kept_to columns kept place a ≡ kept_to columns kept (place + 1) a
    by_place (inl here) =
        let stays : has kept a ≡ true = ap (has kept) here ∙ sym is in
        kept_here columns kept place a stays ∙ sym (kept_here columns kept (place + 1) a stays)
    by_place (inr other) = kept_elsewhere columns kept place a other
kept_more columns now next kept place false before is made a = ap (λ cs. column_at cs a) made ∙ by_place (cases_eq a place)
  where
    by_place : (a ≡ place) ⊎ (a ≡ place → ⊥) → column_at (set now place None) a ≡ kept_to columns kept (place + 1) a
    by_place (inl here) =
        ap (column_at (set now place None)) here ∙ emptied now place ∙ sym (gone_here columns kept place (sym is))
        ∙ ap (kept_to columns kept (place + 1)) (sym here)
    by_place (inr other) = get_or-set_other now place a None None other ∙ before a ∙ kept_elsewhere columns kept place a other

-- past the last one
pub kept_end : (columns now : List (Option Shown)) (kept place : ℕ) → length columns ≤ place
    → ((a : ℕ) → column_at now a ≡ kept_to columns kept place a) → (a : ℕ)
    → column_at now a ≡ (if has kept a then column_at columns a else None)
kept_end columns now kept place past are a = are a ∙ by_tests (has kept a) (nat_lt a place) refl
  where
    by_tests : (b c : Bool) → nat_lt a place ≡ c
        → (if c && not b then None else column_at columns a) ≡ (if b then column_at columns a else None)
    by_tests true true is = refl
    by_tests true false is = refl
    by_tests false true is = refl
    by_tests false false is = past_end columns a (grind (arith, nat_tests, is, past))

-- columns that are kept have cells for each row
pub filled_kept : (columns left : List (Option Shown)) (kept rows : ℕ) → All (λ c. IsTrue (has_rows rows c)) columns
    → ((a : ℕ) → column_at left a ≡ (if has kept a then column_at columns a else None)) → All (λ c. IsTrue (has_rows rows c)) left
filled_kept columns left kept rows filled are =
    All-from_get_or (λ c. IsTrue (has_rows rows c)) left None (λ i below. subst (λ o. IsTrue (has_rows rows o)) (sym (are i))
    (by_test (has kept i) i))
  where
    by_test : (b : Bool) (i : ℕ) → IsTrue (has_rows rows (if b then column_at columns i else None))
    by_test true i = filled_at rows columns filled i
    by_test false i = refl

-- the rows that they stand for are cut
pub rows_cut : (columns left : List (Option Shown)) (counts : Option (List ℕ)) (kept rows : ℕ)
    → ((a : ℕ) → column_at left a ≡ (if has kept a then column_at columns a else None))
    → rows_in left counts rows ≡ map (cut kept) (rows_in columns counts rows)
unfolding rows_in
rows_cut columns left counts kept rows are =
    map_agree (row_at left counts) (λ i. cut kept (row_at columns counts i)) same (range_with_len 0 rows)
    ∙ sym (map_map (cut kept) (row_at columns counts) (range_with_len 0 rows))
  where
    by_test : (b : Bool) (i a : ℕ) → option_and_then (λ (c : Shown). slice_get c.cells i) (if b then column_at columns a else None)
        ≡ (if b then cell_at columns i a else None)
    by_test true i a = refl
    by_test false i a = refl

    cells : (i a : ℕ) → cell_at left i a ≡ (if has kept a then cell_at columns i a else None)
    cells i a = ap (λ (o : Option Shown). option_and_then (λ (c : Shown). slice_get c.cells i) o) (are a) ∙ by_test (has kept a) i a

    same : (i : ℕ) → row_at left counts i ≡ cut kept (row_at columns counts i)
    same i = λ j. record { cell = λ a. cells i a j; count = count_at counts i }
