-- The table of groups: its columns by their cells, and the rows that it stands for.
use Rattle.std.proofs.Common.{◌≡◌, refl, sym, ◌∙◌, ap, subst, ℕ, suc, ◌+◌, ◌<◌, ◌≤◌, Bool, true, false, cond, not, IsTrue, List, [], ◌∷◌, length, map, get_or, set, All, Option, Some, None, option_map, slice_get, if◌then◌else◌, arith, ◌⊎◌, inl, inr}
use Rattle.std.specs.Prelude.{◌&&◌, filter, filter_map, is_some, option_and_then}
use Rattle.std.proofs.lemmas.Bool.{eq-eqb}
use Rattle.std.proofs.lemmas.Cmp.{nat_list_cmp_total, tied_itself}
use Rattle.std.specs.Cmp.Lexicographic.{slice_cmp}
use Rattle.std.specs.Ordering.{is_eq, nat_cmp}
use Rattle.std.proofs.lemmas.List.{get_or-set_other, get_or-set_same, get_or_default, get_or_past, length-map, map-set}
use Rattle.std.proofs.lemmas.List.Elements.{All-cons, All-filter, All-head, All-map, All-nil, All-tail, All-weaker}
use Rattle.std.proofs.lemmas.List.FromFn.{length-range_with_len}
use Rattle.std.proofs.lemmas.Option.{slice_get-map}
use Rattle.std.specs.List.{cons_option, list_all, range_with_len, reduce}
use Rattle.base_laws.specs.Lists.{firsts}
use Rattle.base_laws.specs.Sets.{has, members}
use Rattle.base_laws.proofs.FilterLaws.{filter_mapped, firsts_mapped, map_map}
use Rattle.base_laws.proofs.ListLaws.{filter-length}
use Rattle.mq_base.specs.declared.ids.AttrId.{AttrId}
use Rattle.mq_base.specs.declared.query.Agg.{Agg}
use Rattle.mq_base.specs.Value.{value_cmp}
use Rattle.mq_base.specs.ValueLaws.{value_total}
use Rattle.column_table.specs.declared.table.Table.{Table}
use Rattle.column_table.specs.Cells.{Cell, Plain, Sealed, Seals, cell_step, cell_tests}
use Rattle.column_table.specs.Columns.{Shown, at_rows, cell_at, column_at, count_at, counts_have, has_rows, row_at, rows_in, shown, shown_columns}
use Rattle.column_table.specs.Tables.{column_in, row_of, rows_of}
use Rattle.column_table.specs.Groups.{AreCellsOf, IsMadeOf, IsPlaceOf, first_in, folded_at, group_cell}
use Rattle.column_table.specs.inside.Labels.{IsGroup, groups_by, own_tests, same_rows}
use Rattle.column_table.proofs.PairRows.{eq_reversed, range_below}
use Rattle.column_table.proofs.FoldRows.{made_at_rows}
use Rattle.row_algebra.specs.Groups.{aggregate, function_of, group_row, grouped, same_cell, same_cells}
use Rattle.row_algebra.specs.Rows.{RowOf}
use Rattle.sealed_column.specs.declared.column.AnyColumn.{AnyColumn}

-- ---- heads

-- a member comes first among those that pass with it
record IsHeadOf {X : Type 0} (x : X) (xs : List X) : Type 0 where
  rest : List X
  is : xs ≡ x ∷ rest

heads_first : {X : Type 0} (same : X → X → Bool) → ((x : X) → same x x ≡ true) → ((x y : X) → same x y ≡ same y x) → (xs : List X)
    → All (λ h. IsHeadOf h (filter (same h) xs)) (firsts same xs)
heads_first same itself turned [] = All-nil (λ h. IsHeadOf h [])
heads_first {X} same itself turned (x ∷ xs) =
    All-cons (λ h. IsHeadOf h (filter (same h) (x ∷ xs))) x (filter (λ y. not (same x y)) (firsts same xs))
    (record { rest = filter (same x) xs; is = ap (λ b. cond b (x ∷ filter (same x) xs) (filter (same x) xs)) (itself x) })
    (kept (firsts same xs) (heads_first same itself turned xs))
  where
    later : (h : X) → same x h ≡ false → IsHeadOf h (filter (same h) xs) → IsHeadOf h (filter (same h) (x ∷ xs))
    later h unlike is = record {
      rest = is.rest;
      is = ap (λ b. cond b (x ∷ filter (same h) xs) (filter (same h) xs)) (turned h x ∙ unlike) ∙ is.is;
    }

    by_test : (y : X) (b : Bool) → same x y ≡ b → (ys : List X) → IsHeadOf y (filter (same y) xs)
        → All (λ h. IsHeadOf h (filter (same h) (x ∷ xs))) ys → All (λ h. IsHeadOf h (filter (same h) (x ∷ xs))) (cond (not b) (y ∷ ys) ys)
    by_test y true like ys first rest = rest
    by_test y false unlike ys first rest = All-cons (λ h. IsHeadOf h (filter (same h) (x ∷ xs))) y ys (later y unlike first) rest

    kept : (ys : List X) → All (λ h. IsHeadOf h (filter (same h) xs)) ys
        → All (λ h. IsHeadOf h (filter (same h) (x ∷ xs))) (filter (λ y. not (same x y)) ys)
    kept [] all = All-nil (λ h. IsHeadOf h (filter (same h) (x ∷ xs)))
    kept (y ∷ ys) all =
        by_test y (same x y) refl (filter (λ z. not (same x z)) ys) (All-head (λ h. IsHeadOf h (filter (same h) xs)) y ys all)
        (kept ys (All-tail (λ h. IsHeadOf h (filter (same h) xs)) y ys all))

pub firsts-length : {X : Type 0} (same : X → X → Bool) (xs : List X) → length (firsts same xs) ≤ length xs
firsts-length same [] = omega arith
firsts-length same (x ∷ xs) =
    let rest = firsts-length same xs in
    let fewer = filter-length (λ y. not (same x y)) (firsts same xs) in
    omega (arith, rest, fewer)

map_on : {X Y : Type 0} (P : X → Type 0) (f g : X → Y) → ((x : X) → P x → f x ≡ g x) → (xs : List X) → All P xs → map f xs ≡ map g xs
map_on P f g agree [] all = refl
map_on P f g agree (x ∷ xs) all = λ i. agree x (All-head P x xs all) i ∷ map_on P f g agree xs (All-tail P x xs all) i

module _ (same : ℕ → ℕ → Bool) (itself : (x : ℕ) → same x x ≡ true) (turned : (x y : ℕ) → same x y ≡ same y x) where
  -- each group has a row, and its rows are in range
  pub groups_in : (rows : ℕ) (groups : List (List ℕ)) → groups ≡ groups_by same rows → All (IsGroup rows) groups
  groups_in rows groups are =
      subst (All (IsGroup rows)) (sym are)
      (All-map (IsGroup rows) (λ h. filter (same h) (range_with_len 0 rows)) (firsts same (range_with_len 0 rows))
      (All-weaker (λ h. IsHeadOf h (filter (same h) (range_with_len 0 rows))) (λ h. IsGroup rows (filter (same h) (range_with_len 0 rows))) in_range
      (firsts same (range_with_len 0 rows)) (heads_first same itself turned (range_with_len 0 rows))))
    where
      in_range : (h : ℕ) → IsHeadOf h (filter (same h) (range_with_len 0 rows)) → IsGroup rows (filter (same h) (range_with_len 0 rows))
      in_range h is =
          let long : length (filter (same h) (range_with_len 0 rows)) ≡ suc (length is.rest) = ap length is.is in
          record {
            some = omega arith;
            within = All-filter (same h) (λ r. r < rows) (range_with_len 0 rows)
                (All-weaker (λ r. r < 0 + rows) (λ r. r < rows) (λ r below. omega arith) (range_with_len 0 rows) (range_below 0 rows));
          }

  -- there are no more groups than rows
  pub groups-few : (rows : ℕ) (groups : List (List ℕ)) → groups ≡ groups_by same rows → length groups ≤ rows
  groups-few rows groups are =
      let long : length groups ≡ length (firsts same (range_with_len 0 rows)) =
      ap length are ∙ length-map (firsts same (range_with_len 0 rows)) (λ h. filter (same h) (range_with_len 0 rows)) in
      let few = firsts-length same (range_with_len 0 rows) in
      let range = length-range_with_len 0 rows in
      omega (arith, long, few, range)

  first_of_group : (rows h : ℕ) → IsHeadOf h (filter (same h) (range_with_len 0 rows)) → first_in (filter (same h) (range_with_len 0 rows)) ≡ h
  first_of_group rows h is = ap first_in is.is

-- ---- the rows of the groups

-- the row of a group of a table's rows
abbrev pub group_of : Table → Seals → ℕ → List (AttrId × Agg) → Bool → List ℕ → RowOf Cell
group_of table seals by aggs counted group =
    group_row (cell_tests seals) by aggs counted (row_of table (first_in group)) (map (row_of table) group)

pub grouped_rows : (table : Table) (seals : Seals) (by : ℕ) (aggs : List (AttrId × Agg)) (counted : Bool)
    → ((x : ℕ) → same_rows table by x x ≡ true) → ((x y : ℕ) → same_rows table by x y ≡ same_rows table by y x)
    → map (group_of table seals by aggs counted) (groups_by (same_rows table by) table.rows)
    ≡ grouped (cell_tests seals) by aggs counted (rows_of table)
unfolding rows_in
grouped_rows table seals by aggs counted itself turned =
    let range : List ℕ = range_with_len 0 table.rows in
    let row : ℕ → RowOf Cell = row_of table in
    let made : RowOf Cell → List (RowOf Cell) → RowOf Cell = group_row (cell_tests seals) by aggs counted in
    map_map (group_of table seals by aggs counted) (λ h. filter (same_rows table by h) range) (firsts (same_rows table by) range)
    ∙ map_on (λ h. IsHeadOf h (filter (same_rows table by h) range)) (λ h. group_of table seals by aggs counted (filter (same_rows table by h) range))
    (λ h. made (row h) (filter (same_cells (cell_tests seals) by (row h)) (map row range)))
    (λ h is. ap (λ k. made (row k) (map row (filter (same_rows table by h) range)))
    (first_of_group (same_rows table by) itself turned table.rows h is)
    ∙ ap (made (row h)) (sym (filter_mapped (same_cells (cell_tests seals) by (row h)) row range)))
    (firsts (same_rows table by) range) (heads_first (same_rows table by) itself turned range)
    ∙ sym (map_map (λ first. made first (filter (same_cells (cell_tests seals) by first) (map row range))) row (firsts (same_rows table by) range))
    ∙ ap (map (λ first. made first (filter (same_cells (cell_tests seals) by first) (map row range))))
    (sym (firsts_mapped (same_cells (cell_tests seals) by) row range))

-- ---- the cells of the groups

some_cell : (o : Option Cell) (x : Option Cell) → option_map Some o ≡ Some x → o ≡ x
some_cell None x is = cc
some_cell (Some c) x is = cc

given_at : (give : List ℕ → Option Cell) (groups : List (List ℕ)) (cells : List Cell) (k : ℕ) (group : List ℕ)
    → map Some cells ≡ map give groups → slice_get groups k ≡ Some group → slice_get cells k ≡ give group
given_at give groups cells k group are at =
    some_cell (slice_get cells k) (give group)
    (sym (slice_get-map Some cells k) ∙ ap (λ cs. slice_get cs k) are ∙ slice_get-map give groups k ∙ ap (option_map give) at)

abbrev cell_in : Option Shown → ℕ → Option Cell
cell_in o row = option_and_then (λ (c : Shown). slice_get c.cells row) o

-- what a function makes of a column, where there is one
abbrev folded_in : Option Agg → Option Shown → List ℕ → Option Cell
folded_in None o group = None
folded_in (Some func) o group = reduce (cell_step func) (filter_map (cell_in o) group)

none_picked : (rows : List ℕ) → filter_map (cell_in None) rows ≡ []
none_picked [] = refl
none_picked (row ∷ rows) = none_picked rows

none_folded : (o : Option Agg) (group : List ℕ) → None ≡ folded_in o None group
none_folded None group = refl
none_folded (Some func) group = sym (ap (reduce (cell_step func)) (none_picked group))

module _ (by : ℕ) (aggs : List (AttrId × Agg)) (groups : List (List ℕ)) (a k : ℕ) (group : List ℕ) (at : slice_get groups k ≡ Some group) where
  -- the cell of a column of groups
  place_cell : (o m : Option Shown) → IsPlaceOf by aggs groups a o m
      → cell_in m k ≡ (if has by a then cell_in o (first_in group) else folded_in (function_of aggs a) o group)
  place_cell None m is = ap (λ n. cell_in n k) is ∙ by_test (has by a)
    where
      by_test : (b : Bool) → None ≡ (if b then None else folded_in (function_of aggs a) None group)
      by_test true = refl
      by_test false = none_folded (function_of aggs a) group
  place_cell (Some c) m is = by_tests (has by a) (function_of aggs a) m is
    where
      by_tests : (b : Bool) (o : Option Agg) (n : Option Shown)
          → AreCellsOf (if b then Some (λ g. slice_get c.cells (first_in g)) else option_map (λ (func : Agg) (g : List ℕ). folded_at func c.cells g) o) groups c n
          → cell_in n k ≡ (if b then slice_get c.cells (first_in group) else folded_in o (Some c) group)
      by_tests true o None holds = absurd holds
      by_tests true o (Some d) holds = given_at (λ g. slice_get c.cells (first_in g)) groups d.cells k group holds.cells at
      by_tests false None n holds = ap (λ e. cell_in e k) holds
      by_tests false (Some func) None holds = absurd holds
      by_tests false (Some func) (Some d) holds = given_at (folded_at func c.cells) groups d.cells k group holds.cells at

filtered_rows : (f : RowOf Cell → Option Cell) (g : ℕ → RowOf Cell) (rows : List ℕ) → filter_map f (map g rows) ≡ filter_map (λ i. f (g i)) rows
filtered_rows f g [] = refl
filtered_rows f g (row ∷ rows) = ap (cons_option (f (g row))) (filtered_rows f g rows)

folded_rows : (table : Table) (seals : Seals) (a : ℕ) (o : Option Agg) (group : List ℕ)
    → folded_in o (column_in table a) group ≡ aggregate (cell_tests seals) o a (map (row_of table) group)
folded_rows table seals a None group = refl
folded_rows table seals a (Some func) group = ap (reduce (cell_step func)) (sym (filtered_rows (λ r. r.cell a) (row_of table) group))

-- the count of a group
count_made : (counted : Bool) (groups : List (List ℕ)) (k : ℕ) (group : List ℕ) → slice_get groups k ≡ Some group
    → count_at (if counted then Some (map length groups) else None) k ≡ (if counted then Some (length group) else None)
count_made true groups k group at = slice_get-map length groups k ∙ ap (option_map length) at
count_made false groups k group at = refl

along_list : {X Y : Type 0} (g : ℕ → X) (h : Y → X) (ys : List Y) (start : ℕ)
    → ((i : ℕ) (y : Y) → slice_get ys i ≡ Some y → g (start + i) ≡ h y) → map g (range_with_len start (length ys)) ≡ map h ys
along_list g h [] start agree = refl
along_list g h (y ∷ ys) start agree =
    let here : start ≡ start + 0 = omega arith in
    let first : g start ≡ h y = ap g here ∙ agree 0 y refl in
    let rest = along_list g h ys (start + 1) (λ i z at. let same : start + 1 + i ≡ start + suc i = omega arith in ap g same ∙ agree (suc i) z at) in
    λ i. first i ∷ rest i

module _ (table : Table) (seals : Seals) (by : ℕ) (aggs : List (AttrId × Agg)) (counted : Bool) (groups : List (List ℕ))
    (columns : List (Option Shown)) (counts : Option (List ℕ)) (places : (a : ℕ) → IsPlaceOf by aggs groups a (column_in table a) (column_at columns a))
    (counts_are : counts ≡ (if counted then Some (map length groups) else None)) where
  row_made : (k : ℕ) (group : List ℕ) → slice_get groups k ≡ Some group → row_at columns counts k ≡ group_of table seals by aggs counted group
  row_made k group at = λ j. record {
    cell = λ a. cells a j;
    count = (ap (λ c. count_at c k) counts_are ∙ count_made counted groups k group at
        ∙ ap (λ n. if counted then Some n else None) (sym (length-map group (row_of table)))) j;
  }
    where
      cells : (a : ℕ) → cell_at columns k a
          ≡ (if has by a then cell_at (shown_columns table.columns) (first_in group) a
          else aggregate (cell_tests seals) (function_of aggs a) a (map (row_of table) group))
      cells a =
          place_cell by aggs groups a k group at (column_in table a) (column_at columns a) (places a)
          ∙ ap (λ o. if has by a then cell_in (column_in table a) (first_in group) else o) (folded_rows table seals a (function_of aggs a) group)

  -- the rows of the table of groups are those of the groups
  pub rows_made : rows_in columns counts (length groups) ≡ map (group_of table seals by aggs counted) groups
  unfolding rows_in
  rows_made =
      along_list (row_at columns counts) (group_of table seals by aggs counted) groups 0
      (λ k group at. let same : 0 + k ≡ k = omega arith in ap (row_at columns counts) same ∙ row_made k group at)

-- ---- the columns

made_long : (give : List ℕ → Option Cell) (groups : List (List ℕ)) (cells : List Cell) → map Some cells ≡ map give groups
    → length cells ≡ length groups
made_long give groups cells are = sym (length-map cells Some) ∙ ap length are ∙ length-map groups give

place_long : (by : ℕ) (aggs : List (AttrId × Agg)) (groups : List (List ℕ)) (a : ℕ) (o m : Option Shown) → IsPlaceOf by aggs groups a o m
    → IsTrue (has_rows (length groups) m)
place_long by aggs groups a None m is = subst (λ n. IsTrue (has_rows (length groups) n)) (sym is) refl
place_long by aggs groups a (Some c) m is = by_give (group_cell by aggs a c) m is
  where
    by_give : (o : Option (List ℕ → Option Cell)) (n : Option Shown) → AreCellsOf o groups c n → IsTrue (has_rows (length groups) n)
    by_give None n holds = subst (λ e. IsTrue (has_rows (length groups) e)) (sym holds) refl
    by_give (Some give) None holds = absurd holds
    by_give (Some give) (Some d) holds = eq-eqb (length d.cells) (length groups) (made_long give groups d.cells holds.cells)

pub filled_made : (table : Table) (by : ℕ) (aggs : List (AttrId × Agg)) (groups : List (List ℕ)) (columns : List (Option Shown)) (rows : ℕ)
    → rows ≡ length groups → ((a : ℕ) → IsPlaceOf by aggs groups a (column_in table a) (column_at columns a))
    → All (λ c. IsTrue (has_rows rows c)) columns
filled_made table by aggs groups columns rows long places k d below =
    subst (λ n. IsTrue (has_rows n (get_or columns k d))) (sym long)
    (subst (λ c. IsTrue (has_rows (length groups) c)) (sym (get_or_default columns k d None below))
    (place_long by aggs groups k (column_in table k) (column_at columns k) (places k)))

pub counted_made : (counted : Bool) (groups : List (List ℕ)) (counts : Option (List ℕ)) (rows : ℕ) → rows ≡ length groups
    → counts ≡ (if counted then Some (map length groups) else None) → IsTrue (counts_have rows counts)
counted_made counted groups counts rows long are = subst (λ c. IsTrue (counts_have rows c)) (sym are) (by_test counted)
  where
    by_test : (b : Bool) → IsTrue (counts_have rows (if b then Some (map length groups) else None))
    by_test true = eq-eqb (length (map length groups)) rows (length-map groups length ∙ sym long)
    by_test false = refl

pub counts_told : (counted : Bool) (groups : List (List ℕ)) (counts : Option (List ℕ))
    → counts ≡ (if counted then Some (map length groups) else None) → is_some counts ≡ counted
counts_told true groups counts are = ap is_some are
counts_told false groups counts are = ap is_some are

-- a column put at its place
pub place_put : (P : ℕ → Option Shown → Type 0) (made : List (Option AnyColumn)) (a k : ℕ) (x : Option AnyColumn) → length made ≡ 64 → a < 64
    → ((j : ℕ) → j < a → P j (column_at (shown_columns made) j)) → P a (option_map shown x) → k < a + 1
    → P k (column_at (shown_columns (set made a x)) k)
place_put P made a k x long small before here below = by_place (grind arith)
  where
    shown_set : (j : ℕ) → column_at (shown_columns (set made a x)) j ≡ get_or (set (shown_columns made) a (option_map shown x)) j None
    shown_set j = ap (λ cs. get_or cs j None) (map-set (option_map shown) made a x)

    long_shown : length (shown_columns made) ≡ 64
    long_shown = length-map made (option_map shown) ∙ long

    by_place : (k ≡ a) ⊎ (k < a) → P k (column_at (shown_columns (set made a x)) k)
    by_place (inl same) =
        subst (λ j. P j (column_at (shown_columns (set made a x)) j)) (sym same)
        (subst (P a) (sym (shown_set a ∙ get_or-set_same (shown_columns made) a (option_map shown x) None (omega (arith, long_shown)))) here)
    by_place (inr less) =
        subst (P k) (sym (shown_set k ∙ get_or-set_other (shown_columns made) a k (option_map shown x) None (λ same. omega (arith, same, less))))
        (before k less)

-- past the last place there is no column
pub no_place : (by : ℕ) (aggs : List (AttrId × Agg)) (groups : List (List ℕ)) (columns made : List (Option AnyColumn)) (k : ℕ)
    → length columns ≤ k → length made ≤ k → IsPlaceOf by aggs groups k (column_at (shown_columns columns) k) (column_at (shown_columns made) k)
no_place by aggs groups columns made k past past_too =
    subst (λ o. IsPlaceOf by aggs groups k o (column_at (shown_columns made) k)) (sym (past_column columns past)) (past_column made past_too)
  where
    past_column : (cs : List (Option AnyColumn)) → length cs ≤ k → column_at (shown_columns cs) k ≡ None
    past_column cs under = get_or_past (shown_columns cs) k None (omega (arith, length-map cs (option_map shown), under))

-- what holds before the end and past the last place holds everywhere
pub each_place : (P : ℕ → Type 0) (end : ℕ) → 64 ≤ end → ((k : ℕ) → k < end → P k) → ((k : ℕ) → 64 ≤ k → P k) → (k : ℕ) → P k
each_place P end past before after k = by_place (grind arith)
  where
    by_place : (k < 64) ⊎ (64 ≤ k) → P k
    by_place (inl below) = before k (omega (arith, below, past))
    by_place (inr above) = after k above

first_within : (rows : ℕ) (group : List ℕ) → IsGroup rows group → first_in group < rows
first_within rows [] is = let some = is.some in absurd (omega (arith, some))
first_within rows (row ∷ group) is = All-head (λ r. r < rows) row group is.within

-- the first rows of groups are in range
pub heads_within : (rows : ℕ) (groups : List (List ℕ)) (heads : List ℕ) → heads ≡ map first_in groups → All (IsGroup rows) groups
    → All (λ r. r < rows) heads
heads_within rows groups heads are all =
    subst (All (λ r. r < rows)) (sym are)
    (All-map (λ r. r < rows) first_in groups (All-weaker (IsGroup rows) (λ g. first_in g < rows) (first_within rows) groups all))

-- the column of an attribute: grouped, under a function, or neither
module _ (by : ℕ) (aggs : List (AttrId × Agg)) (groups : List (List ℕ)) (a : ℕ) (c : Shown) where
  pub place_of_heads : (d : Shown) (heads : List ℕ) → has by a ≡ true → heads ≡ map first_in groups → All (λ r. r < length c.cells) heads
      → d ≡ at_rows heads c → AreCellsOf (group_cell by aggs a c) groups c (Some d)
  place_of_heads d heads inside are within is =
      subst (λ b. AreCellsOf (if b then Some (λ g. slice_get c.cells (first_in g))
      else option_map (λ (func : Agg) (g : List ℕ). folded_at func c.cells g) (function_of aggs a)) groups c (Some d)) (sym inside)
      (made_at_rows (λ g. slice_get c.cells (first_in g)) groups c d heads within
      (ap (map (slice_get c.cells)) are ∙ map_map (slice_get c.cells) first_in groups) is)

  pub place_of_fold : (d : Shown) (func : Agg) → has by a ≡ false → function_of aggs a ≡ Some func → IsMadeOf (folded_at func c.cells) groups c d
      → AreCellsOf (group_cell by aggs a c) groups c (Some d)
  place_of_fold d func outside under made =
      subst (λ b. AreCellsOf (if b then Some (λ g. slice_get c.cells (first_in g))
      else option_map (λ (func : Agg) (g : List ℕ). folded_at func c.cells g) (function_of aggs a)) groups c (Some d)) (sym outside)
      (subst (λ o. AreCellsOf (option_map (λ (func : Agg) (g : List ℕ). folded_at func c.cells g) o) groups c (Some d)) (sym under) made)

  pub place_of_none : has by a ≡ false → function_of aggs a ≡ None → AreCellsOf (group_cell by aggs a c) groups c None
  place_of_none outside under =
      subst (λ b. AreCellsOf (if b then Some (λ g. slice_get c.cells (first_in g))
      else option_map (λ (func : Agg) (g : List ℕ). folded_at func c.cells g) (function_of aggs a)) groups c None) (sym outside)
      (subst (λ o. AreCellsOf (option_map (λ (func : Agg) (g : List ℕ). folded_at func c.cells g) o) groups c None) (sym under) refl)

-- ---- rows are the same as themselves, and in either order

cell_itself : (o : Option Cell) → same_cell own_tests o o ≡ true
cell_itself None = refl
cell_itself (Some (Plain v)) = ap is_eq (tied_itself value_total v)
cell_itself (Some (Sealed t)) = ap is_eq (tied_itself nat_list_cmp_total t)

cell_turned : (o p : Option Cell) → same_cell own_tests o p ≡ same_cell own_tests p o
cell_turned None None = refl
cell_turned None (Some d) = refl
cell_turned (Some c) None = refl
cell_turned (Some (Plain v)) (Some (Plain w)) = ap is_eq (value_total.antisymm v w) ∙ eq_reversed (value_cmp w v)
cell_turned (Some (Sealed s)) (Some (Sealed t)) = ap is_eq (nat_list_cmp_total.antisymm s t) ∙ eq_reversed (slice_cmp nat_cmp t s)
cell_turned (Some (Plain v)) (Some (Sealed t)) = refl
cell_turned (Some (Sealed s)) (Some (Plain w)) = refl

all_pass : (p : ℕ → Bool) → ((a : ℕ) → p a ≡ true) → (xs : List ℕ) → list_all p xs ≡ true
all_pass p pass [] = refl
all_pass p pass (x ∷ xs) = λ i. pass x i && all_pass p pass xs i

all_agree : (p q : ℕ → Bool) → ((a : ℕ) → p a ≡ q a) → (xs : List ℕ) → list_all p xs ≡ list_all q xs
all_agree p q agree [] = refl
all_agree p q agree (x ∷ xs) = λ i. agree x i && all_agree p q agree xs i

pub same_itself : (table : Table) (by x : ℕ) → same_rows table by x x ≡ true
same_itself table by x =
    all_pass (λ a. same_cell own_tests (cell_at (shown_columns table.columns) x a) (cell_at (shown_columns table.columns) x a))
    (λ a. cell_itself (cell_at (shown_columns table.columns) x a)) (members by)

pub same_turned : (table : Table) (by x y : ℕ) → same_rows table by x y ≡ same_rows table by y x
same_turned table by x y =
    all_agree (λ a. same_cell own_tests (cell_at (shown_columns table.columns) x a) (cell_at (shown_columns table.columns) y a))
    (λ a. same_cell own_tests (cell_at (shown_columns table.columns) y a) (cell_at (shown_columns table.columns) x a))
    (λ a. cell_turned (cell_at (shown_columns table.columns) x a) (cell_at (shown_columns table.columns) y a)) (members by)
