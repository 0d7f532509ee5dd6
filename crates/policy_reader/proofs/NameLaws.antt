-- The names of lists without a fault: each is text, and none stands twice among those of a kind.
use Rattle.std.proofs.Common.{◌≡◌, ℕ, ◌+◌, ◌<◌, Bool, true, false, ◌||◌, List, [], ◌∷◌, length, take, Option, Some, None, refl, arith, bytes_eq}
use Rattle.std.specs.Prelude.{IfSome, slice_get, nat_le}
use Rattle.std.specs.List.{list_all, list_any, IsDistinct}
use Rattle.std.specs.Str.{IsUtf8, IsAscii}
use Rattle.std.proofs.lemmas.Bool.{and_parts}
use Rattle.std.proofs.lemmas.Bool.Decides.{nat_tests}
use Rattle.std.proofs.lemmas.Str.{IsUtf8-from_ascii}
use Rattle.std.proofs.lemmas.Str.Ascii.{IsAscii-nil, IsAscii-cons}
use Rattle.std.proofs.lemmas.Option.{slice_get_within}
use Rattle.base_laws.specs.Firsts.{first_at}
use Rattle.base_laws.proofs.FirstLaws.{first_at-none, none_left}
use Rattle.base_laws.proofs.PlaceLaws.{none_before, distinct_from_places}
use Rattle.policy_reader.specs.declared.raw.RawColumn.{RawColumn}
use Rattle.policy_reader.specs.declared.raw.RawTable.{RawTable}
use Rattle.policy_base.specs.Names.{is_one_of}
use Rattle.policy_reader.specs.Names.{is_name, is_subject_name}
use Rattle.policy_reader.specs.Faults.{name_fault, subject_fault, table_fault, column_fault, columns_fault, table_names_fault, is_table, has_column, have_column}
use Rattle.word_forms.specs.Words.{is_first, is_later, is_word}

first_ascii : (b : ℕ) → is_first b ≡ true → b < 128
first_ascii b first = grind (arith, nat_tests)

later_ascii : (b : ℕ) → is_later b ≡ true → b < 128
later_ascii b later = grind (arith, nat_tests)

all_ascii : (bytes : List ℕ) → list_all is_later bytes ≡ true → IsAscii bytes
all_ascii [] all = IsAscii-nil
all_ascii (b ∷ rest) all =
    let parts = and_parts (is_later b) (list_all is_later rest) all in
    IsAscii-cons b rest (later_ascii b parts.0) (all_ascii rest parts.1)

word_ascii : (text : List ℕ) → is_word text ≡ true → IsAscii text
word_ascii [] word = IsAscii-nil
word_ascii (first ∷ rest) word =
    let parts = and_parts (is_first first) (list_all is_later rest) word in
    IsAscii-cons first rest (first_ascii first parts.0) (all_ascii rest parts.1)

-- a name is text
pub name_text : (text : List ℕ) → is_name text ≡ true → IsUtf8 text
name_text text name =
    let parts = and_parts (nat_le (length text) 32) _ name in
    let word = and_parts (is_word text) _ parts.1 in
    IsUtf8-from_ascii text (word_ascii text word.0)

-- where its test finds no fault, a name meets the rule and does not stand earlier
passed : (well earlier : Bool) (at item : ℕ) → name_fault well earlier at item ≡ None → (well ≡ true) × (earlier ≡ false)
passed true false at item none = (refl, refl)
passed true true at item none = cc
passed false earlier at item none = cc

-- of the subject at a place
subject_passed : (subjects : List (List ℕ)) (s : ℕ) (name : List ℕ) → slice_get subjects s ≡ Some name → subject_fault subjects s ≡ None
    → (is_subject_name name ≡ true) × (is_one_of name (take s subjects) ≡ false)
subject_passed subjects s name there none = passed (is_subject_name name) (is_one_of name (take s subjects)) s 0 (rw there at none)

pub subject_passes : (subjects : List (List ℕ)) (s : ℕ) (name : List ℕ) → first_at (subject_fault subjects) 0 (length subjects) ≡ None
    → slice_get subjects s ≡ Some name → (is_subject_name name ≡ true) × (is_one_of name (take s subjects) ≡ false)
subject_passes subjects s name none there =
    let below : s < length subjects = slice_get_within subjects s name there in
    subject_passed subjects s name there (first_at-none (subject_fault subjects) 0 (length subjects) none s (omega arith) (omega arith))

-- of the table at a place
table_parts : (tables : List RawTable) (t : ℕ) (table : RawTable) → first_at (table_names_fault tables) 0 (length tables) ≡ None
    → slice_get tables t ≡ Some table → (table_fault tables t ≡ None) × (columns_fault tables t ≡ None)
table_parts tables t table none there =
    let below : t < length tables = slice_get_within tables t table there in
    none_left (table_fault tables t) (columns_fault tables t)
    (first_at-none (table_names_fault tables) 0 (length tables) none t (omega arith) (omega arith))

table_passed : (tables : List RawTable) (t : ℕ) (table : RawTable) → slice_get tables t ≡ Some table → table_fault tables t ≡ None
    → (is_name table.name ≡ true) × (list_any (is_table table.name) (take t tables) ≡ false)
table_passed tables t table there none = passed (is_name table.name) (list_any (is_table table.name) (take t tables)) t 0 (rw there at none)

pub table_passes : (tables : List RawTable) (t : ℕ) (table : RawTable) → first_at (table_names_fault tables) 0 (length tables) ≡ None
    → slice_get tables t ≡ Some table → (is_name table.name ≡ true) × (list_any (is_table table.name) (take t tables) ≡ false)
table_passes tables t table none there = table_passed tables t table there (table_parts tables t table none there).0

-- of the column at a place of the table at a place
columns_passed : (tables : List RawTable) (t : ℕ) (table : RawTable) → slice_get tables t ≡ Some table → columns_fault tables t ≡ None
    → first_at (column_fault (take t tables) table.columns t) 0 (length table.columns) ≡ None
columns_passed tables t table there none = rw there at none

column_passed : (earlier : List RawTable) (columns : List RawColumn) (t place : ℕ) (column : RawColumn) → slice_get columns place ≡ Some column
    → column_fault earlier columns t place ≡ None
    → (is_name column.name ≡ true) × ((have_column column.name earlier || has_column column.name (take place columns)) ≡ false)
column_passed earlier columns t place column there none =
    passed (is_name column.name) (have_column column.name earlier || has_column column.name (take place columns)) t (place + 1) (rw there at none)

pub column_passes : (tables : List RawTable) (t place : ℕ) (table : RawTable) (column : RawColumn)
    → first_at (table_names_fault tables) 0 (length tables) ≡ None → slice_get tables t ≡ Some table → slice_get table.columns place ≡ Some column
    → (is_name column.name ≡ true) × ((have_column column.name (take t tables) || has_column column.name (take place table.columns)) ≡ false)
column_passes tables t place table column none there column_there =
    let below : place < length table.columns = slice_get_within table.columns place column column_there in
    let all = columns_passed tables t table there (table_parts tables t table none there).1 in
    column_passed (take t tables) table.columns t place column column_there
    (first_at-none (column_fault (take t tables) table.columns t) 0 (length table.columns) all place (omega arith) (omega arith))

-- each subject of lists without a fault is text
pub subjects_are_text : (subjects : List (List ℕ)) → first_at (subject_fault subjects) 0 (length subjects) ≡ None
    → (s : ℕ) → IfSome (slice_get subjects s) IsUtf8
subjects_are_text subjects none s = by_place (slice_get subjects s) refl
  where
    by_place : (o : Option (List ℕ)) → slice_get subjects s ≡ o → IfSome o IsUtf8
    by_place None here = tt
    by_place (Some name) here =
        let name_well = and_parts (is_name name) _ (subject_passes subjects s name none here).0 in
        name_text name name_well.0

-- each table's name
pub tables_are_text : (tables : List RawTable) → first_at (table_names_fault tables) 0 (length tables) ≡ None
    → (t : ℕ) → IfSome (slice_get tables t) (λ table. IsUtf8 table.name)
tables_are_text tables none t = by_place (slice_get tables t) refl
  where
    by_place : (o : Option RawTable) → slice_get tables t ≡ o → IfSome o (λ table. IsUtf8 table.name)
    by_place None here = tt
    by_place (Some table) here = name_text table.name (table_passes tables t table none here).0

-- subjects differ
pub subjects_differ : (subjects : List (List ℕ)) → first_at (subject_fault subjects) 0 (length subjects) ≡ None → IsDistinct bytes_eq subjects
subjects_differ subjects none = distinct_from_places bytes_eq subjects (λ i j x y below here there.
    none_before (λ name. bytes_eq name y) subjects j i x here below (subject_passes subjects j y none there).1)
