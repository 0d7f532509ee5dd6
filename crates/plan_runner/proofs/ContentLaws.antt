-- The contents that tables give: of bytes where the tables are, and for each table its own rows.
use Rattle.std.proofs.Common.{◌≡◌, ◌≢◌, ℕ, ◌==◌, Bool, true, false, cond, List, [], ◌∷◌, map, find, All, Option, Some, None, option_map, slice_get, refl, sym, ◌∙◌, ap, subst, arith}
use Rattle.std.specs.Prelude.{IfSome, option_and_then, zip}
use Rattle.std.specs.List.{AllByRecursion, range_with_len}
use Rattle.std.specs.Option.{option_map_or}
use Rattle.std.proofs.lemmas.Bool.Decides.{nat_tests}
use Rattle.std.proofs.lemmas.List.Elements.{All-get_or, All-head, All-tail, recursion_from_All}
use Rattle.std.proofs.lemmas.Option.{get_or_from_slice_get, slice_get_within}
use Rattle.base_laws.proofs.FilterLaws.{each_always, each_both, each_leads, each_map, each_unmap, map_map}
use Rattle.mq_base.specs.Schema.{IsSchema}
use Rattle.mq_base.specs.Table.{HasForm}
use Rattle.mq_base.specs.BoundQuery.{AreDistinct}
use Rattle.mq_base.specs.declared.ids.TableId.{TableId}
use Rattle.mq_base.specs.declared.schema.Schema.{Schema}
use Rattle.mq_base.specs.declared.table.PlainTable.{PlainTable}
use Rattle.mq_base.specs.declared.value.Value.{Value}
use Rattle.extended_plan.specs.Setting.{Setting}
use Rattle.provider_engine.specs.Decoding.{HaveBytes}
use Rattle.row_algebra.specs.Contents.{attributes_of, column_of, contents_of, row_at, table_rows}
use Rattle.row_algebra.specs.Rows.{RowOf}
use Rattle.sealed_column.specs.Seal.{HasBytes}
use Rattle.plan_runner.specs.inside.Given.{ColumnHasBytes, IsGiven, TableHasBytes}

-- ---- bytes

-- the cells of a row are made of bytes
abbrev RowHasBytes : RowOf Value → Type 0
RowHasBytes r = (a : ℕ) → IfSome (r.cell a) HasBytes

value_bytes : (column : List Value) (place : ℕ) → ColumnHasBytes column → IfSome (slice_get column place) HasBytes
value_bytes column place all = by_value (slice_get column place) refl
  where
    by_value : (o : Option Value) → slice_get column place ≡ o → IfSome o HasBytes
    by_value None none = tt
    by_value (Some v) some =
        subst HasBytes (get_or_from_slice_get column place v v some)
        (All-get_or HasBytes column place v (slice_get_within column place v some) all)

cell_bytes : (o : Option (List Value)) (place : ℕ) → IfSome o ColumnHasBytes
    → IfSome (option_and_then (λ (column : List Value). slice_get column place) o) HasBytes
cell_bytes None place all = tt
cell_bytes (Some column) place all = value_bytes column place all

column_bytes : (a : ℕ) (xs : List ℕ) (columns : List (List Value)) → All ColumnHasBytes columns
    → IfSome (option_map (λ (p : ℕ × List Value). p.1) (find (λ (p : ℕ × List Value). p.0 == a) (zip xs columns))) ColumnHasBytes
column_bytes a [] columns all = tt
column_bytes a (b ∷ xs) [] all = tt
column_bytes a (b ∷ xs) (column ∷ columns) all =
    by_test (b == a) (column_bytes a xs columns (All-tail ColumnHasBytes column columns all))
  where
    by_test : (c : Bool)
        → IfSome (option_map (λ (p : ℕ × List Value). p.1) (find (λ (p : ℕ × List Value). p.0 == a) (zip xs columns))) ColumnHasBytes
        → IfSome (option_map (λ (p : ℕ × List Value). p.1)
        (cond c (Some (b, column)) (find (λ (p : ℕ × List Value). p.0 == a) (zip xs columns)))) ColumnHasBytes
    by_test true rest = All-head ColumnHasBytes column columns all
    by_test false rest = rest

rows_bytes : (schema : Schema) (table : PlainTable) → TableHasBytes table → AllByRecursion RowHasBytes (table_rows schema table)
rows_bytes schema table bytes =
    each_map RowHasBytes (row_at schema table) (range_with_len 0 table.rows)
    (each_always (λ place. RowHasBytes (row_at schema table place))
    (λ place a. cell_bytes (column_of schema table a) place (column_bytes a (attributes_of schema table.table.0) table.columns bytes))
    (range_with_len 0 table.rows))

-- the contents of tables of bytes are of bytes
pub contents_bytes : (schema : Schema) (tables : List PlainTable) → All TableHasBytes tables → HaveBytes (contents_of schema tables)
unfolding contents_of
contents_bytes schema [] all t = tt
contents_bytes schema (table ∷ rest) all t =
    by_test (table.table.0 == t) (contents_bytes schema rest (All-tail TableHasBytes table rest all) t)
  where
    by_test : (b : Bool)
        → AllByRecursion RowHasBytes (option_map_or (table_rows schema) (find (λ (other : PlainTable). other.table.0 == t) rest) [])
        → AllByRecursion RowHasBytes
        (option_map_or (table_rows schema) (cond b (Some table) (find (λ (other : PlainTable). other.table.0 == t) rest)) [])
    by_test true later = rows_bytes schema table (All-head TableHasBytes table rest all)
    by_test false later = later

-- ---- the rows of each table

abbrev number_of : PlainTable → ℕ
number_of table = table.table.0

-- the table that is found for its own number is itself, where no number stands twice
all_found : (tables : List PlainTable) → AreDistinct (map number_of tables)
    → AllByRecursion (λ (table : PlainTable). find (λ (other : PlainTable). other.table.0 == table.table.0) tables ≡ Some table) tables
all_found [] distinct = tt
all_found (first ∷ rest) distinct = (
  ap (λ b. cond b (Some first) (find (λ (other : PlainTable). other.table.0 == first.table.0) rest)) (same_test first.table.0),
  each_leads
      (λ (table : PlainTable). (first.table.0 ≢ table.table.0) × (find (λ (other : PlainTable). other.table.0 == table.table.0) rest ≡ Some table))
      (λ (table : PlainTable). find (λ (other : PlainTable). other.table.0 == table.table.0) (first ∷ rest) ≡ Some table)
      (λ table both. ap (λ b. cond b (Some first) (find (λ (other : PlainTable). other.table.0 == table.table.0) rest))
      (other_test first.table.0 table.table.0 both.0) ∙ both.1)
      rest
      (each_both (λ (table : PlainTable). first.table.0 ≢ table.table.0)
      (λ (table : PlainTable). find (λ (other : PlainTable). other.table.0 == table.table.0) rest ≡ Some table) rest
      (each_unmap (λ n. first.table.0 ≢ n) number_of rest (recursion_from_All (λ n. first.table.0 ≢ n) (map number_of rest) distinct.0))
      (all_found rest distinct.1)),
)
  where
    same_test : (n : ℕ) → (n == n) ≡ true
    same_test n = grind (arith, nat_tests)

    other_test : (m n : ℕ) → m ≢ n → (m == n) ≡ false
    other_test m n differ = grind (arith, nat_tests)

found_rows : (schema : Schema) (tables : List PlainTable) (table : PlainTable)
    → find (λ (other : PlainTable). other.table.0 == table.table.0) tables ≡ Some table
    → contents_of schema tables table.table.0 ≡ table_rows schema table
unfolding contents_of
found_rows schema tables table found = ap (λ o. option_map_or (table_rows schema) o []) found

-- so each table of a query has its rows in the contents that all of them give
pub tables_given : (s : Setting) → IsSchema s.policy.schema → (asked : List TableId) (tables : List PlainTable) → AreDistinct (map (λ (t : TableId). t.0) asked)
    → map (λ (table : PlainTable). table.table) tables ≡ asked → AllByRecursion (HasForm s.policy.schema) tables
    → AllByRecursion (IsGiven s (contents_of s.policy.schema tables)) tables
tables_given s schema asked tables distinct listed forms =
    let numbers : map number_of tables ≡ map (λ (t : TableId). t.0) asked =
    sym (map_map (λ (t : TableId). t.0) (λ (table : PlainTable). table.table) tables) ∙ ap (map (λ (t : TableId). t.0)) listed in
    each_leads
    (λ (table : PlainTable). HasForm s.policy.schema table × (find (λ (other : PlainTable). other.table.0 == table.table.0) tables ≡ Some table))
    (IsGiven s (contents_of s.policy.schema tables))
    (λ table both. record { schema = schema; form = both.0; rows = found_rows s.policy.schema tables table both.1 })
    tables
    (each_both (HasForm s.policy.schema) (λ (table : PlainTable). find (λ (other : PlainTable). other.table.0 == table.table.0) tables ≡ Some table)
    tables forms (all_found tables (subst AreDistinct (sym numbers) distinct)))
