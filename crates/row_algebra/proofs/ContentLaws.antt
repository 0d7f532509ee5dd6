-- The rows of a table have its own cells alone, and each of them of its type.
use Rattle.std.proofs.Common.{◌≡◌, refl, sym, ◌∙◌, ap, subst, ℕ, zero, suc, ◌+◌, ◌<◌, ◌==◌, Bool, true, false, cond, ◌||◌, List, [], ◌∷◌, ◌++◌, length, filter, find, All, Option, Some, None, option_map, slice_get, arith}
use Rattle.std.specs.Prelude.{zip, IsSomeAnd}
use Rattle.std.specs.List.{list_any, range_with_len, AllByRecursion, AllZip}
use Rattle.std.specs.Option.{option_map_or}
use Rattle.std.proofs.lemmas.Bool.{eqb-true}
use Rattle.std.proofs.lemmas.List.{length-append, append_assoc}
use Rattle.std.proofs.lemmas.List.Folds.{list_any_at, list_any-append}
use Rattle.std.proofs.lemmas.List.FromFn.{length-range_with_len, get_or-range_with_len}
use Rattle.std.proofs.lemmas.Option.{slice_get-get_or, slice_get_within}
use Rattle.base_laws.proofs.FilterLaws.{each_always, each_leads, each_map, each_passes}
use Rattle.mq_base.specs.declared.ids.TableId.{TableId}
use Rattle.mq_base.specs.declared.schema.AttrInfo.{AttrInfo}
use Rattle.mq_base.specs.declared.schema.Schema.{Schema}
use Rattle.mq_base.specs.declared.table.PlainTable.{PlainTable}
use Rattle.mq_base.specs.declared.value.Value.{Value}
use Rattle.mq_base.specs.declared.value.ValueType.{ValueType}
use Rattle.mq_base.specs.Schema.{is_column_of, columns_of}
use Rattle.mq_base.specs.Table.{IsColumn, HasForm}
use Rattle.mq_base.specs.Value.{IsCell}
use Rattle.row_algebra.specs.Rows.{RowOf, IsOf}
use Rattle.row_algebra.specs.Contents.{owns, some_owns, HaveOwnCells, HasCells, HaveForm, attributes_of, row_at, table_rows, contents_of}
use Rattle.row_algebra.specs.Likeness.{Beside}
use Rattle.row_algebra.proofs.LikenessLaws.{beside_filter}

-- an attribute of these tables and one more is of the one or of these
pub some_owns_push : (schema : Schema) (earlier : List TableId) (t : TableId) (a : ℕ)
    → some_owns schema (earlier ++ t ∷ []) a ≡ (some_owns schema earlier a || owns schema t.0 a)
some_owns_push schema earlier t a =
    list_any-append (λ (s : TableId). owns schema s.0 a) earlier (t ∷ [])
    ∙ ap (λ b. some_owns schema earlier a || b) (or_false (owns schema t.0 a))
  where
    or_false : (b : Bool) → (b || false) ≡ b
    or_false true = refl
    or_false false = refl

-- a column beside an attribute

not_beside : (a : ℕ) (test : ℕ → Bool) → test a ≡ false → (xs : List ℕ) (columns : List (List Value))
    → AllByRecursion (λ b. test b ≡ true) xs → find (λ (p : ℕ × List Value). p.0 == a) (zip xs columns) ≡ None
not_beside a test outside [] columns all = refl
not_beside a test outside (b ∷ xs) [] all = refl
not_beside a test outside (b ∷ xs) (column ∷ columns) all =
    by_test (b == a) refl (not_beside a test outside xs columns all.1)
  where
    both : (c : Bool) → c ≡ true → c ≡ false → ⊥
    both c holds fails = let bad : true ≡ false = sym holds ∙ fails in cc

    by_test : (c : Bool) → (b == a) ≡ c → find (λ (p : ℕ × List Value). p.0 == a) (zip xs columns) ≡ None
        → cond c (Some (b, column)) (find (λ (p : ℕ × List Value). p.0 == a) (zip xs columns)) ≡ None
    by_test true same rest =
        absurd (both (test a) (subst (λ i. test i ≡ true) (eqb-true b a same) all.0) outside)
    by_test false other rest = rest

-- a row of a table has no other cells
row_is_of : (schema : Schema) (table : PlainTable) (place : ℕ)
    → IsOf (owns schema table.table.0) (row_at schema table place)
row_is_of schema table place a outside =
    rw (not_beside a (owns schema table.table.0) outside (attributes_of schema table.table.0) table.columns
    (each_passes (owns schema table.table.0) (range_with_len 0 (length schema.attrs)))) refl

rows_are_of : (schema : Schema) (table : PlainTable)
    → AllByRecursion (IsOf (owns schema table.table.0)) (table_rows schema table)
rows_are_of schema table =
    each_map (IsOf (owns schema table.table.0)) (row_at schema table) (range_with_len 0 table.rows)
    (each_always (λ place. IsOf (owns schema table.table.0) (row_at schema table place)) (row_is_of schema table)
    (range_with_len 0 table.rows))

-- what holds of each table's rows holds of the contents that tables give
contents_each : (P : ℕ → RowOf Value → Type 0) (schema : Schema) (tables : List PlainTable)
    → AllByRecursion (λ (table : PlainTable). AllByRecursion (P table.table.0) (table_rows schema table)) tables → (t : ℕ)
    → AllByRecursion (P t) (contents_of schema tables t)
unfolding contents_of
contents_each P schema [] all t = tt
contents_each P schema (table ∷ rest) all t = by_test (table.table.0 == t) refl (contents_each P schema rest all.1 t)
  where
    by_test : (b : Bool) → (table.table.0 == t) ≡ b
        → AllByRecursion (P t) (option_map_or (table_rows schema) (find (λ (other : PlainTable). other.table.0 == t) rest) [])
        → AllByRecursion (P t)
        (option_map_or (table_rows schema) (cond b (Some table) (find (λ (other : PlainTable). other.table.0 == t) rest)) [])
    by_test true same later = subst (λ i. AllByRecursion (P i) (table_rows schema table)) (eqb-true table.table.0 t same) all.0
    by_test false other later = later

pub contents_own : (schema : Schema) (tables : List PlainTable) → HaveOwnCells schema (contents_of schema tables)
contents_own schema tables =
    contents_each (λ t. IsOf (owns schema t)) schema tables
    (each_always (λ (table : PlainTable). AllByRecursion (IsOf (owns schema table.table.0)) (table_rows schema table))
    (rows_are_of schema) tables)

-- attributes beside their columns

at_end : {X : Type 0} (front : List X) (x : X) (rest : List X) → slice_get (front ++ x ∷ rest) (length front) ≡ Some x
at_end [] x rest = refl
at_end (y ∷ front) x rest = at_end front x rest

numbered : {X : Type 0} (all front rest : List X) → all ≡ front ++ rest
    → Beside (λ a x. slice_get all a ≡ Some x) (range_with_len (length front) (length rest)) rest
numbered all front [] whole = tt
numbered {X = X} all front (x ∷ rest) whole = (
  ap (λ xs. slice_get xs (length front)) whole ∙ at_end front x rest,
  subst (λ n. Beside (λ a y. slice_get all a ≡ Some y) (range_with_len n (length rest)) rest)
      (length-append front (x ∷ []))
      (numbered all (front ++ x ∷ []) rest (whole ∙ sym (append_assoc front (x ∷ []) rest))),
)

attributes_beside : (schema : Schema) (t : ℕ)
    → Beside (λ a info. slice_get schema.attrs a ≡ Some info) (attributes_of schema t) (columns_of schema t)
attributes_beside schema t =
    beside_filter (λ a info. slice_get schema.attrs a ≡ Some info) (owns schema t) (is_column_of t)
    (λ a info there. rw there refl) (range_with_len 0 (length schema.attrs)) schema.attrs
    (numbered schema.attrs [] schema.attrs refl)

-- the column of an attribute
pub record ColumnOf (rows : ℕ) (info : AttrInfo) (found : Option (List Value)) : Type 0 where
  pub column : List Value
  pub there : found ≡ Some column
  pub form : IsColumn rows info column

found_beside : (schema : Schema) (rows a : ℕ) (info : AttrInfo) → slice_get schema.attrs a ≡ Some info → (xs : List ℕ)
    (infos : List AttrInfo) (columns : List (List Value)) → Beside (λ b other. slice_get schema.attrs b ≡ Some other) xs infos
    → AllZip (IsColumn rows) infos columns → list_any (λ b. b == a) xs ≡ true
    → ColumnOf rows info (option_map (λ (p : ℕ × List Value). p.1) (find (λ (p : ℕ × List Value). p.0 == a) (zip xs columns)))
found_beside schema rows a info is_info [] infos columns beside form inside = cc
found_beside schema rows a info is_info (b ∷ xs) [] columns beside form inside = absurd beside
found_beside schema rows a info is_info (b ∷ xs) (other ∷ infos) [] beside form inside = absurd form
found_beside schema rows a info is_info (b ∷ xs) (other ∷ infos) (column ∷ columns) beside form inside =
    by_test (b == a) refl inside (found_beside schema rows a info is_info xs infos columns beside.1 form.1)
  where
    same_info : b ≡ a → other ≡ info
    same_info same =
        let both : Some other ≡ Some info = sym beside.0 ∙ (ap (slice_get schema.attrs) same ∙ is_info) in cc

    by_test : (c : Bool) → (b == a) ≡ c → (c || list_any (λ i. i == a) xs) ≡ true
        → (list_any (λ i. i == a) xs ≡ true
        → ColumnOf rows info (option_map (λ (p : ℕ × List Value). p.1) (find (λ (p : ℕ × List Value). p.0 == a) (zip xs columns))))
        → ColumnOf rows info
        (option_map (λ (p : ℕ × List Value). p.1) (cond c (Some (b, column)) (find (λ (p : ℕ × List Value). p.0 == a) (zip xs columns))))
    by_test true same held later = record {
      column = column;
      there = refl;
      form = subst (λ i. IsColumn rows i column) (same_info (eqb-true b a same)) form.0;
    }
    by_test false differs held later = later held

any_filtered : (test : ℕ → Bool) (a : ℕ) → test a ≡ true → (xs : List ℕ) → list_any (λ b. b == a) xs ≡ true
    → list_any (λ b. b == a) (filter test xs) ≡ true
any_filtered test a passes [] inside = cc
any_filtered test a passes (b ∷ xs) inside =
    by_tests (b == a) refl (test b) refl inside (any_filtered test a passes xs)
  where
    differ : (c : Bool) → c ≡ true → c ≡ false → ⊥
    differ c holds fails = let bad : true ≡ false = sym holds ∙ fails in cc

    by_tests : (c : Bool) → (b == a) ≡ c → (d : Bool) → test b ≡ d → (c || list_any (λ i. i == a) xs) ≡ true
        → (list_any (λ i. i == a) xs ≡ true → list_any (λ i. i == a) (filter test xs) ≡ true)
        → list_any (λ i. i == a) (cond d (b ∷ filter test xs) (filter test xs)) ≡ true
    by_tests true same true kept held later = rw same refl
    by_tests true same false left_out held later =
        absurd (differ (test a) passes (subst (λ i. test i ≡ false) (eqb-true b a same) left_out))
    by_tests false other true kept held later = rw other (later held)
    by_tests false other false left_out held later = later held

any_in_range : (a n : ℕ) → a < n → list_any (λ b. b == a) (range_with_len 0 n) ≡ true
any_in_range a n below =
    list_any_at (λ b. b == a) (range_with_len 0 n) a 0 (rw length-range_with_len below)
    (rw (get_or-range_with_len 0 n a 0 below) (same_test a))
  where
    same_test : (a : ℕ) → (0 + a == a) ≡ true
    same_test a = grind arith

cell_of_column : (ty : ValueType) (column : List Value) (place : ℕ) → place < length column → All (IsCell ty) column
    → IsSomeAnd (slice_get column place) (IsCell ty)
cell_of_column ty [] place below all = absurd (omega (arith, below))
cell_of_column ty (x ∷ column) place below all =
    rw (slice_get-get_or (x ∷ column) place x below) (all place x below)

row_has_cells : (schema : Schema) (table : PlainTable) → HasForm schema table → (place : ℕ) → place < table.rows
    → HasCells schema table.table.0 (row_at schema table place)
row_has_cells schema table form place below a info is_info of_table =
    let owned : owns schema table.table.0 a ≡ true = rw (is_info, of_table) (same_test table.table.0) in
    let found = found_beside schema table.rows a info is_info (attributes_of schema table.table.0)
    (columns_of schema table.table.0) table.columns (attributes_beside schema table.table.0) form.columns
    (any_filtered (owns schema table.table.0) a owned (range_with_len 0 (length schema.attrs))
    (any_in_range a (length schema.attrs) (slice_get_within schema.attrs a info is_info))) in
    rw found.there
    (cell_of_column info.ty found.column place (subst (λ n. place < n) (sym found.form.filled) below) found.form.cells)
  where
    same_test : (t : ℕ) → (t == t) ≡ true
    same_test t = grind arith

range_below : (k n m : ℕ) → k + n ≡ m → AllByRecursion (λ i. i < m) (range_with_len k n)
range_below k zero m whole = tt
range_below k (suc n) m whole = (omega (arith, whole), range_below (k + 1) n m (omega (arith, whole)))

pub rows_have_cells : (schema : Schema) (table : PlainTable) → HasForm schema table
    → AllByRecursion (HasCells schema table.table.0) (table_rows schema table)
rows_have_cells schema table form =
    each_map (HasCells schema table.table.0) (row_at schema table) (range_with_len 0 table.rows)
    (each_leads (λ place. place < table.rows) (λ place. HasCells schema table.table.0 (row_at schema table place))
    (λ place below. row_has_cells schema table form place below) (range_with_len 0 table.rows)
    (range_below 0 table.rows table.rows (omega arith)))

-- the contents that tables of their forms give have the form
pub contents_form : (schema : Schema) (tables : List PlainTable) → AllByRecursion (HasForm schema) tables
    → HaveForm schema (contents_of schema tables)
contents_form schema tables forms = record {
  own = contents_own schema tables;
  cells = contents_each (HasCells schema) schema tables
      (each_leads (HasForm schema) (λ (table : PlainTable). AllByRecursion (HasCells schema table.table.0) (table_rows schema table))
      (rows_have_cells schema) tables forms);
  counts = contents_each (λ t r. r.count ≡ None) schema tables
      (each_always (λ (table : PlainTable). AllByRecursion (λ r. r.count ≡ None) (table_rows schema table))
      (λ table. each_map (λ r. r.count ≡ None) (row_at schema table) (range_with_len 0 table.rows)
      (each_always (λ place. None ≡ None) (λ place. refl) (range_with_len 0 table.rows))) tables);
}
