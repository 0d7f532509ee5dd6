-- The product of whole tables, also of such without columns.
use Rattle.std.proofs.Common.{◌≡◌, refl, sym, ◌∙◌, ap, ℕ, zero, suc, ◌*◌, Bool, true, false, not, IsTrue, List, [], ◌∷◌, length, map, replicate, All, Option, Some, None, option_map}
use Rattle.std.specs.Prelude.{is_none, is_some}
use Rattle.std.proofs.lemmas.List.Elements.{All-replicate, All-same}
use Rattle.std.specs.List.{list_any}
use Rattle.std.specs.Option.{option_or}
use Rattle.base_laws.proofs.BoolLaws.{both}
use Rattle.column_table.specs.declared.table.Table.{Table}
use Rattle.column_table.specs.Cells.{Cell}
use Rattle.column_table.specs.Columns.{Shown, at_rows, column_at, has_rows, rows_in, shown_columns}
use Rattle.column_table.specs.Tables.{column_in, rows_of}
use Rattle.column_table.specs.Beside.{IsBeside}
use Rattle.column_table.specs.inside.Pairs.{all_pairs, is_bare, pair_row}
use Rattle.column_table.proofs.ColumnLaws.{rows_length}
use Rattle.column_table.proofs.PairRows.{bare_rows, product-length, product_bare, product_rows}
use Rattle.row_algebra.specs.Rows.{empty_row, product}
use Rattle.sealed_column.specs.declared.column.AnyColumn.{AnyColumn}

-- the pairs of all rows of two tables stand for their product
pub whole_product : (left right : Table) → map (pair_row left right) (all_pairs left.rows right.rows) ≡ product (rows_of left) (rows_of right)
unfolding rows_in
whole_product left right = product_rows left right left.rows right.rows

-- which has as many rows as their numbers say
pub whole_length : (left right : Table) → length (product (rows_of left) (rows_of right)) ≡ left.rows * right.rows
whole_length left right =
    product-length (rows_of left) (rows_of right)
    ∙ (λ i. rows_length (shown_columns left.columns) left.counts left.rows i * rows_length (shown_columns right.columns) right.counts right.rows i)

-- ---- no columns

none_in : (n a : ℕ) → column_at (replicate n None) a ≡ None
none_in zero a = refl
none_in (suc n) zero = refl
none_in (suc n) (suc a) = none_in n a

pub none_at : (columns : List (Option Shown)) (n : ℕ) → columns ≡ replicate n None → (a : ℕ) → column_at columns a ≡ None
none_at columns n is a = ap (λ cs. column_at cs a) is ∙ none_in n a

-- columns that are not there have a cell for each row
pub none_filled : (rows : ℕ) (columns : List (Option Shown)) (n : ℕ) → columns ≡ replicate n None → All (λ c. IsTrue (has_rows rows c)) columns
none_filled rows columns n is =
    All-same (λ c. IsTrue (has_rows rows c)) columns (replicate n None) is (All-replicate (λ c. IsTrue (has_rows rows c)) n None refl)

none_of : (columns : List (Option AnyColumn)) → list_any is_some columns ≡ false → (a : ℕ) → column_at (shown_columns columns) a ≡ None
none_of [] none a = refl
none_of (None ∷ columns) none zero = refl
none_of (None ∷ columns) none (suc a) = none_of columns none a
none_of (Some c ∷ columns) none a = cc

untrue : (b : Bool) → not b ≡ true → b ≡ false
untrue true is = cc
untrue false is = refl

no_counts : (counts : Option (List ℕ)) → is_none counts ≡ true → counts ≡ None
no_counts None is = refl
no_counts (Some c) is = cc

-- a bare table has no column
bare_columns : (table : Table) → is_bare table ≡ true → (a : ℕ) → column_in table a ≡ None
bare_columns table is =
    none_of table.columns (untrue (list_any is_some table.columns) (both (not (list_any is_some table.columns)) (is_none table.counts) is).0)

-- and no counts
bare_counts : (table : Table) → is_bare table ≡ true → table.counts ≡ None
bare_counts table is = no_counts table.counts (both (not (list_any is_some table.columns)) (is_none table.counts) is).1

bare_table : (table : Table) → is_bare table ≡ true → rows_of table ≡ replicate table.rows empty_row
bare_table table is =
    ap (λ c. rows_in (shown_columns table.columns) c table.rows) (bare_counts table is)
    ∙ bare_rows (shown_columns table.columns) table.rows (bare_columns table is)

-- the product of bare tables is a number of rows without cells
pub bare_product : (left right made : Table) (count : ℕ) → is_bare left ≡ true → is_bare right ≡ true
    → rows_of made ≡ replicate count empty_row → count ≡ left.rows * right.rows → rows_of made ≡ product (rows_of left) (rows_of right)
bare_product left right made count first second is many =
    is ∙ ap (λ n. replicate n empty_row) many ∙ sym (product_bare left.rows right.rows (empty_row {C = Cell}) refl)
    ∙ (λ i. product (sym (bare_table left first) i) (sym (bare_table right second) i))

-- and has their columns and counts, of which there are none
pub bare_beside : (left right made : Table) → is_bare left ≡ true → is_bare right ≡ true → ((a : ℕ) → column_in made a ≡ None)
    → made.counts ≡ None → IsBeside left right made
bare_beside left right made first second columns counts = record {
  left_rows = [];
  right_rows = [];
  columns = λ a. columns a
      ∙ sym (λ i. option_or (option_map (at_rows []) (bare_columns left first a i)) (option_map (at_rows []) (bare_columns right second a i)));
  counts = ap is_some counts ∙ sym (λ i. is_some (option_or (bare_counts left first i) (bare_counts right second i)));
}
