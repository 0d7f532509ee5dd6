-- Where tables and columns stand: the ids of a table's columns are a run of their own, and each column of the policy is
-- that of a place of a table. So the names of tables and of columns differ.
use Rattle.std.proofs.Common.{◌≡◌, ℕ, zero, suc, ◌+◌, ◌-◌, ◌<◌, ◌≤◌, false, ◌||◌, List, [], ◌∷◌, length, take, map, Option, Some, None, refl, sym, ◌∙◌, ap, arith, bytes_eq, option_map, ◌⊎◌, inl, inr, zero-add}
use Rattle.std.specs.Prelude.{slice_get, IfSome}
use Rattle.std.specs.List.{IsDistinct}
use Rattle.std.specs.Str.{IsUtf8}
use Rattle.std.proofs.lemmas.Bool.{or_parts, cases_lt, cases_order}
use Rattle.std.proofs.lemmas.List.{length-map}
use Rattle.std.proofs.lemmas.List.Sums.{sum_by-cons}
use Rattle.std.proofs.lemmas.Option.{slice_get_within, slice_get-map}
use Rattle.base_laws.specs.Firsts.{first_at}
use Rattle.base_laws.proofs.PlaceLaws.{none_at, none_before, distinct_from_places, shown, slice_get-append_left, slice_get-append_right}
use Rattle.mq_base.specs.declared.schema.AttrInfo.{AttrInfo}
use Rattle.mq_base.specs.declared.schema.TableInfo.{TableInfo}
use Rattle.policy_reader.specs.declared.raw.RawColumn.{RawColumn}
use Rattle.policy_reader.specs.declared.raw.RawTable.{RawTable}
use Rattle.policy_reader.specs.Faults.{table_names_fault, is_table, is_column, has_column, have_column, column_count}
use Rattle.policy_reader.specs.Grants.{first_id}
use Rattle.policy_reader.specs.Outcome.{subject_id, table_info, tables_from, column_info, columns_from}
use Rattle.policy_reader.proofs.NameLaws.{table_passes, column_passes, name_text}

-- the first id of the next table
first_id-more : (table : RawTable) (others : List RawTable) (t : ℕ) → first_id (table ∷ others) (suc t) ≡ length table.columns + first_id others t
first_id-more table others t = sum_by-cons (λ (x : RawTable). length x.columns) table (take t others)

-- a table's ids end before those of each later table, and within the number of columns
pub run_before : (tables : List RawTable) (i j : ℕ) (table : RawTable) → slice_get tables i ≡ Some table → i < j
    → first_id tables i + length table.columns ≤ first_id tables j
run_before [] i j table there below = cc
run_before (x ∷ rest) zero zero table there below = absurd (omega arith)
run_before (x ∷ rest) zero (suc j) table there below =
    let same : x ≡ table = cc in
    let long : length x.columns ≡ length table.columns = ap (λ (t : RawTable). length t.columns) same in
    let more = first_id-more x rest j in
    let start : first_id (x ∷ rest) 0 ≡ 0 = refl in
    omega arith
run_before (x ∷ rest) (suc i) zero table there below = absurd (omega arith)
run_before (x ∷ rest) (suc i) (suc j) table there below =
    let before : first_id rest i + length table.columns ≤ first_id rest j = run_before rest i j table there (omega arith) in
    let one = first_id-more x rest i in
    let other = first_id-more x rest j in
    omega arith

pub run_within : (tables : List RawTable) (t : ℕ) (table : RawTable) → slice_get tables t ≡ Some table
    → first_id tables t + length table.columns ≤ column_count tables
run_within [] t table there = cc
run_within (x ∷ rest) zero table there =
    let same : x ≡ table = cc in
    let long : length x.columns ≡ length table.columns = ap (λ (t : RawTable). length t.columns) same in
    let all = sum_by-cons (λ (t : RawTable). length t.columns) x rest in
    let start : first_id (x ∷ rest) 0 ≡ 0 = refl in
    omega arith
run_within (x ∷ rest) (suc t) table there =
    let within : first_id rest t + length table.columns ≤ column_count rest = run_within rest t table there in
    let more = first_id-more x rest t in
    let all = sum_by-cons (λ (t : RawTable). length t.columns) x rest in
    omega arith

-- the table of the policy at a place
pub tables_from-at : (subjects : List (List ℕ)) (first : ℕ) (tables : List RawTable) (t : ℕ)
    → slice_get (tables_from subjects first tables) t ≡ option_map (λ table. table_info subjects (first + first_id tables t) table) (slice_get tables t)
tables_from-at subjects first [] t = refl
tables_from-at subjects first (table ∷ others) zero =
    let same : first ≡ first + 0 = omega arith in
    ap (λ n. Some (table_info subjects n table)) same
tables_from-at subjects first (table ∷ others) (suc t) =
    let same : first + length table.columns + first_id others t ≡ first + (length table.columns + first_id others t) = omega arith in
    rw (first_id-more, ← same) (tables_from-at subjects (first + length table.columns) others t)

-- the names of the tables, and their owners
pub names_from : (subjects : List (List ℕ)) (first : ℕ) (tables : List RawTable)
    → map (λ (info : TableInfo). info.name) (tables_from subjects first tables) ≡ map (λ (table : RawTable). table.name) tables
names_from subjects first [] = refl
names_from subjects first (table ∷ others) = ap (λ rest. table.name ∷ rest) (names_from subjects (first + length table.columns) others)

pub owners_are : (subjects : List (List ℕ)) (first : ℕ) (tables : List RawTable)
    → map (λ (info : TableInfo). info.owner) (tables_from subjects first tables) ≡ map (λ (table : RawTable). subject_id subjects table.owner) tables
owners_are subjects first [] = refl
owners_are subjects first (table ∷ others) =
    ap (λ rest. subject_id subjects table.owner ∷ rest) (owners_are subjects (first + length table.columns) others)

pub tables_differ : (tables : List RawTable) → first_at (table_names_fault tables) 0 (length tables) ≡ None
    → IsDistinct bytes_eq (map (λ (table : RawTable). table.name) tables)
tables_differ tables none = distinct_from_places bytes_eq (map (λ (table : RawTable). table.name) tables) (λ i j x y below here there.
    at i j x y below
    (shown (λ (table : RawTable). table.name) (slice_get tables i) x (sym (slice_get-map (λ (table : RawTable). table.name) tables i) ∙ here))
    (shown (λ (table : RawTable). table.name) (slice_get tables j) y (sym (slice_get-map (λ (table : RawTable). table.name) tables j) ∙ there)))
  where
    at : (i j : ℕ) (x y : List ℕ) → i < j → (one : RawTable) × ((slice_get tables i ≡ Some one) × (one.name ≡ x))
        → (two : RawTable) × ((slice_get tables j ≡ Some two) × (two.name ≡ y)) → bytes_eq x y ≡ false
    at i j x y below (one, (one_there, one_named)) (two, (two_there, two_named)) =
        rw (← one_named, ← two_named)
        (none_before (is_table two.name) tables j i one one_there below (table_passes tables j two none two_there).1)

-- the table and the place in it of the column with an id
pub record IsLocated (tables : List RawTable) (a : ℕ) (name : List ℕ) : Type 0 where
  pub t : ℕ
  pub place : ℕ
  pub table : RawTable
  pub column : RawColumn
  pub table_there : slice_get tables t ≡ Some table
  pub column_there : slice_get table.columns place ≡ Some column
  pub named : column.name ≡ name
  pub id : a ≡ first_id tables t + place

pub located : (t : ℕ) (tables : List RawTable) (a : ℕ) (info : AttrInfo) → slice_get (columns_from t tables) a ≡ Some info
    → IsLocated tables a info.name
located t [] a info there = cc
located t (table ∷ others) a info there =
    by_place (cases_lt a (length table.columns)) (located (suc t) others (a - length table.columns) info)
  where
    in_first : (column : RawColumn) × ((slice_get table.columns a ≡ Some column) × (column_info t column ≡ info)) → IsLocated (table ∷ others) a info.name
    in_first (column, (column_there, same)) = record {
      t = 0;
      place = a;
      table = table;
      column = column;
      table_there = refl;
      column_there = column_there;
      named = ap (λ (i : AttrInfo). i.name) same;
      id = sym (zero-add a);
    }

    in_later : length table.columns ≤ a → IsLocated others (a - length table.columns) info.name → IsLocated (table ∷ others) a info.name
    in_later past rest =
        let more = first_id-more table others rest.t in
        let id : a - length table.columns ≡ first_id others rest.t + rest.place = rest.id in
        record {
          t = suc rest.t;
          place = rest.place;
          table = rest.table;
          column = rest.column;
          table_there = rest.table_there;
          column_there = rest.column_there;
          named = rest.named;
          id = omega arith;
        }

    by_place : (a < length table.columns) ⊎ (length table.columns ≤ a)
        → (slice_get (columns_from (suc t) others) (a - length table.columns) ≡ Some info → IsLocated others (a - length table.columns) info.name)
        → IsLocated (table ∷ others) a info.name
    by_place (inl below) rest =
        let short : a < length (map (column_info t) table.columns) = rw length-map below in
        in_first (shown (column_info t) (slice_get table.columns a) info
        (sym (slice_get-map (column_info t) table.columns a) ∙ sym (slice_get-append_left (map (column_info t) table.columns) (columns_from (suc t) others) a short) ∙ there))
    by_place (inr past) rest =
        let long : length (map (column_info t) table.columns) ≤ a = rw length-map past in
        let same : length (map (column_info t) table.columns) ≡ length table.columns = rw length-map refl in
        let at_rest : slice_get (columns_from (suc t) others) (a - length table.columns) ≡ Some info =
        rw same at (sym (slice_get-append_right (map (column_info t) table.columns) (columns_from (suc t) others) a long) ∙ there) in
        in_later past (rest at_rest)

-- the columns at two ids have different names
columns_apart : (tables : List RawTable) (i j : ℕ) (x y : List ℕ) → first_at (table_names_fault tables) 0 (length tables) ≡ None
    → i < j → IsLocated tables i x → IsLocated tables j y → bytes_eq x y ≡ false
columns_apart tables i j x y none below one two = rw (← one.named, ← two.named) (by_table (cases_order one.t two.t))
  where
    first_place : i ≡ first_id tables one.t + one.place
    first_place = one.id

    second_place : j ≡ first_id tables two.t + two.place
    second_place = two.id

    new : (have_column two.column.name (take two.t tables) || has_column two.column.name (take two.place two.table.columns)) ≡ false
    new = (column_passes tables two.t two.place two.table two.column none two.table_there two.column_there).1

    news : (have_column two.column.name (take two.t tables) ≡ false) × (has_column two.column.name (take two.place two.table.columns) ≡ false)
    news = or_parts (have_column two.column.name (take two.t tables)) (has_column two.column.name (take two.place two.table.columns)) new

    in_one_table : one.t ≡ two.t → bytes_eq one.column.name two.column.name ≡ false
    in_one_table same_t =
        let same_there : slice_get tables two.t ≡ Some one.table = rw same_t at one.table_there in
        let same : one.table ≡ two.table = cc in
        let first_ids : first_id tables one.t ≡ first_id tables two.t = ap (first_id tables) same_t in
        let column_there : slice_get two.table.columns one.place ≡ Some one.column = rw same at one.column_there in
        none_before (is_column two.column.name) two.table.columns two.place one.place one.column column_there (omega arith) news.1

    by_table : (one.t ≡ two.t) ⊎ ((one.t < two.t) ⊎ (two.t < one.t)) → bytes_eq one.column.name two.column.name ≡ false
    by_table (inl same_t) = in_one_table same_t
    by_table (inr (inl before)) =
        let not_there = none_before (λ table. has_column two.column.name table.columns) tables two.t one.t one.table one.table_there before news.0 in
        none_at (is_column two.column.name) one.table.columns one.place one.column one.column_there not_there
    by_table (inr (inr after)) =
        let ended : first_id tables two.t + length two.table.columns ≤ first_id tables one.t = run_before tables two.t one.t two.table two.table_there after in
        let inside : two.place < length two.table.columns = slice_get_within two.table.columns two.place two.column two.column_there in
        absurd (omega arith)

pub attributes_differ : (tables : List RawTable) → first_at (table_names_fault tables) 0 (length tables) ≡ None
    → IsDistinct bytes_eq (map (λ (info : AttrInfo). info.name) (columns_from 0 tables))
attributes_differ tables none = distinct_from_places bytes_eq (map (λ (info : AttrInfo). info.name) (columns_from 0 tables)) (λ i j x y below here there.
    columns_apart tables i j x y none below
    (at i x (shown (λ (info : AttrInfo). info.name) (slice_get (columns_from 0 tables) i) x (sym (slice_get-map (λ (info : AttrInfo). info.name) (columns_from 0 tables) i) ∙ here)))
    (at j y (shown (λ (info : AttrInfo). info.name) (slice_get (columns_from 0 tables) j) y (sym (slice_get-map (λ (info : AttrInfo). info.name) (columns_from 0 tables) j) ∙ there))))
  where
    at : (a : ℕ) (name : List ℕ) → (info : AttrInfo) × ((slice_get (columns_from 0 tables) a ≡ Some info) × (info.name ≡ name)) → IsLocated tables a name
    at a name (info, (info_there, named)) = rw named at (located 0 tables a info info_there)

-- each attribute's name is text
pub attributes_are_text : (tables : List RawTable) → first_at (table_names_fault tables) 0 (length tables) ≡ None
    → (a : ℕ) → IfSome (slice_get (columns_from 0 tables) a) (λ info. IsUtf8 info.name)
attributes_are_text tables none a = by_place (slice_get (columns_from 0 tables) a) refl
  where
    of_column : (name : List ℕ) → IsLocated tables a name → IsUtf8 name
    of_column name at =
        rw at.named at (name_text at.column.name (column_passes tables at.t at.place at.table at.column none at.table_there at.column_there).0)

    by_place : (o : Option AttrInfo) → slice_get (columns_from 0 tables) a ≡ o → IfSome o (λ info. IsUtf8 info.name)
    by_place None here = tt
    by_place (Some info) here = of_column info.name (located 0 tables a info here)
