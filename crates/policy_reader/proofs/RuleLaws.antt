-- Laws of the tests of a rule: what a table that was found has, and the strings of `plain` as a set of columns.
use Rattle.std.proofs.Common.{◌≡◌, ◌≢◌, ℕ, zero, suc, ◌+◌, ◌^◌, ◌<◌, ◌≤◌, Bool, true, false, cond, ◌||◌, List, [], ◌∷◌, length, get_or, take, Option, Some, None, is_some, refl, sym, ◌∙◌, ap, arith, find, bytes_eq, zero-add, add-one}
use Rattle.std.specs.Prelude.{position, Decides}
use Rattle.std.specs.List.{list_any, position_from}
use Rattle.std.proofs.lemmas.List.Sums.{sum_by-cons}
use Rattle.std.proofs.lemmas.List.Folds.{list_any_more}
use Rattle.std.proofs.lemmas.List.Quantifiers.{position-Some}
use Rattle.std.proofs.lemmas.Iterator.Adapters.{position_from-zero}
use Rattle.std.proofs.Math.Seq.{take-length}
use Rattle.std.proofs.lemmas.Option.{slice_get-get_or}
use Rattle.std.proofs.lemmas.Slice.Eq.{bytes_eq-Decides}
use Rattle.base_laws.specs.Sets.{has}
use Rattle.base_laws.specs.Folds.{union_to}
use Rattle.base_laws.proofs.SetLaws.{has-bit_or, has-single_same, has-single_other, has-empty}
use Rattle.mq_base.specs.declared.value.ValueType.TheVariants as type
use Rattle.policy_reader.specs.declared.raw.RawColumn.{RawColumn}
use Rattle.policy_reader.specs.declared.raw.RawTable.{RawTable}
use Rattle.policy_base.specs.Names.{is_one_of}
use Rattle.policy_reader.specs.Faults.{is_column, is_table, has_column, column_count}
use Rattle.policy_reader.specs.Grants.{single, named, named_at, listed}

-- a number of columns is at least that of each table
one_of_all : (b : Bool) (table first : RawTable) (rest : List RawTable) (name : List ℕ)
    → (find (is_table name) rest ≡ Some table → length table.columns ≤ column_count rest)
    → cond b (Some first) (find (is_table name) rest) ≡ Some table → length table.columns ≤ length first.columns + column_count rest
one_of_all true table first rest name others found =
    let same : first ≡ table = cc in
    let long : length first.columns ≡ length table.columns = ap (λ (t : RawTable). length t.columns) same in
    omega arith
one_of_all false table first rest name others found = let h : length table.columns ≤ column_count rest = others found in omega arith

pub found_columns : (name : List ℕ) (tables : List RawTable) (table : RawTable) → find (is_table name) tables ≡ Some table
    → length table.columns ≤ column_count tables
found_columns name [] table found = cc
found_columns name (first ∷ rest) table found =
    rw (sum_by-cons (λ (t : RawTable). length t.columns) first rest)
    (one_of_all (is_table name first) table first rest name (found_columns name rest table) found)

pub found_few : (name : List ℕ) (tables : List RawTable) (table : RawTable) → find (is_table name) tables ≡ Some table
    → column_count tables ≤ 64 → length table.columns ≤ 64
found_few name tables table found few = omega (arith, found_columns name tables table found)

pub ruleset found = (found_few)

any_from : {T : Type 0} (test : T → Bool) (place : ℕ) (items : List T)
    → list_any test items ≡ is_some (position_from test place items)
any_from test place [] = refl
any_from test place (first ∷ rest) = by_first (test first) (any_from test (place + 1) rest)
  where
    by_first : (b : Bool) → list_any test rest ≡ is_some (position_from test (place + 1) rest)
        → (b || list_any test rest) ≡ is_some (cond b (Some place) (position_from test (place + 1) rest))
    by_first true others = refl
    by_first false others = others

-- some item passes a test where there is a first that does
pub any-position : {T : Type 0} (test : T → Bool) (items : List T) → list_any test items ≡ is_some (position test items)
any-position test items = rw position_from-zero (any_from test 0 items)

pub a_column : List ℕ → RawColumn
a_column name = record { name = name; ty = type.Int }

-- the set of a column that was found
pub named-found : (first place : ℕ) (columns : List RawColumn) (name : List ℕ) → position (is_column name) columns ≡ Some place
    → named first columns name ≡ 2 ^ (first + place)
named-found first place columns name found = rw found

other_place : (columns : List RawColumn) (name other : List ℕ) (place k : ℕ) → position (is_column name) columns ≡ Some place
    → position (is_column other) columns ≡ Some k → other ≢ name → place ≢ k
other_place columns name other place k found found_other differ same =
    let here : bytes_eq (get_or columns place (a_column name)).name name ≡ true = (position-Some (is_column name) columns place (a_column name) found).1 in
    let there : bytes_eq (get_or columns k (a_column name)).name other ≡ true = (position-Some (is_column other) columns k (a_column name) found_other).1 in
    let here_is : (get_or columns place (a_column name)).name ≡ name = (bytes_eq-Decides (get_or columns place (a_column name)).name name).0 here in
    let there_is : (get_or columns k (a_column name)).name ≡ other = (bytes_eq-Decides (get_or columns k (a_column name)).name other).0 there in
    differ (sym there_is ∙ ap (λ at. (get_or columns at (a_column name)).name) (sym same) ∙ here_is)

-- whether a string's column is the one with this name
has-named : (columns : List RawColumn) (name other : List ℕ) (place : ℕ) → position (is_column name) columns ≡ Some place
    → has (named 0 columns other) place ≡ bytes_eq other name
has-named columns name other place found = by_test (bytes_eq other name) (bytes_eq-Decides other name)
  where
    by_place : (o : Option ℕ) → position (is_column other) columns ≡ o → other ≢ name → has (single 0 o) place ≡ false
    by_place None none differ = has-empty place
    by_place (Some k) at differ =
        rw zero-add (has-single_other k place (other_place columns name other place k found at differ))

    by_test : (b : Bool) → Decides b (other ≡ name) → has (named 0 columns other) place ≡ b
    by_test true decides =
        let same : other ≡ name = decides.0 refl in
        rw (same, found, zero-add) (has-single_same place)
    by_test false decides = by_place (position (is_column other) columns) refl (λ same. let h : false ≡ true = decides.1 same in cc)

listed_to : (columns : List RawColumn) (plain : List (List ℕ)) (name : List ℕ) (place : ℕ) → position (is_column name) columns ≡ Some place
    → (n : ℕ) → n ≤ length plain
    → has (union_to (named_at 0 columns plain) n) place ≡ list_any (λ other. bytes_eq other name) (take n plain)
listed_to columns plain name place found zero short = has-empty place
listed_to columns plain name place found (suc n) short =
    let below : n < length plain = omega arith in
    let more = list_any_more (λ other. bytes_eq other name) plain n name below in
    rw (
      has-bit_or,
      slice_get-get_or plain n name below,
      has-named columns name (get_or plain n name) place found,
      listed_to columns plain name place found n (omega arith),
      ← add-one,
      more,
    ) refl

-- a string stands in `plain` where its column is one of the set of `plain`
pub overlap : (columns : List RawColumn) (plain : List (List ℕ)) (name : List ℕ) (place : ℕ) → position (is_column name) columns ≡ Some place
    → has (listed 0 columns plain) place ≡ is_one_of name plain
overlap columns plain name place found =
    let whole = listed_to columns plain name place found (length plain) (omega arith) in
    rw (take-length plain) at whole

-- a string is a column where the place of one was found, and none where none was
pub column_found : (columns : List RawColumn) (name : List ℕ) (place : ℕ) → position (is_column name) columns ≡ Some place
    → has_column name columns ≡ true
column_found columns name place found = rw (any-position, found) refl

pub column_none : (columns : List RawColumn) (name : List ℕ) → position (is_column name) columns ≡ None
    → has_column name columns ≡ false
column_none columns name none = rw (any-position, none) refl

pub column_below : (columns : List RawColumn) (name : List ℕ) (place : ℕ) → position (is_column name) columns ≡ Some place
    → place < length columns
column_below columns name place found = (position-Some (is_column name) columns place (a_column name) found).0

pub column_set : (columns : List RawColumn) (name : List ℕ) (place : ℕ) → position (is_column name) columns ≡ Some place
    → named 0 columns name ≡ 2 ^ place
column_set columns name place found = rw (found, zero-add) refl

pub ruleset columns = (overlap, column_found, column_none, column_below, column_set)
