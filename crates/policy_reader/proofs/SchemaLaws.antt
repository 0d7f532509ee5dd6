-- The schema of a policy: each column belongs to a table, and each table's set has exactly its columns.
use Rattle.std.proofs.Common.{◌≡◌, ℕ, zero, suc, ◌+◌, ◌-◌, ◌<◌, ◌≤◌, ◌↔◌, true, List, [], ◌∷◌, ◌++◌, length, map, Option, Some, None, refl, sym, ◌∙◌, ap, arith, ◌⊎◌, inl, inr, length-append}
use Rattle.std.specs.Prelude.{slice_get, option_map, IfSome}
use Rattle.std.proofs.Math.Nat.{sub-zero}
use Rattle.std.proofs.lemmas.List.{length-map}
use Rattle.std.proofs.lemmas.List.Sums.{sum_by-cons}
use Rattle.base_laws.specs.Sets.{has}
use Rattle.std.proofs.lemmas.Bool.{cases_lt}
use Rattle.mq_base.specs.declared.schema.AttrInfo.{AttrInfo}
use Rattle.mq_base.specs.declared.schema.TableInfo.{TableInfo}
use Rattle.policy_reader.specs.declared.raw.RawColumn.{RawColumn}
use Rattle.policy_reader.specs.declared.raw.RawTable.{RawTable}
use Rattle.policy_base.specs.Names.{is_one_of}
use Rattle.policy_reader.specs.Faults.{column_count}
use Rattle.policy_reader.specs.Grants.{ids}
use Rattle.policy_reader.specs.Outcome.{subject_id, table_info, tables_from, column_info, columns_from}
use Rattle.policy_reader.proofs.SeenLaws.{ids-members, ids-from}

-- the table of the column at a place of the list
abbrev table_at : List AttrInfo → ℕ → Option ℕ
table_at infos a = option_map (λ (info : AttrInfo). info.table.0) (slice_get infos a)

pub length-tables_from : (subjects : List (List ℕ)) (first : ℕ) (tables : List RawTable) → length (tables_from subjects first tables) ≡ length tables
length-tables_from subjects first [] = refl
length-tables_from subjects first (table ∷ others) = ap suc (length-tables_from subjects (first + length table.columns) others)

pub length-columns_from : (t : ℕ) (tables : List RawTable) → length (columns_from t tables) ≡ column_count tables
length-columns_from t [] = refl
length-columns_from t (table ∷ others) =
    rw (length-append, length-map, length-columns_from (suc t) others) (sym (sum_by-cons (λ (x : RawTable). length x.columns) table others))

-- a place among the columns of the first table, or after them
here : (t : ℕ) (columns : List RawColumn) (rest : List AttrInfo) (a : ℕ) → a < length columns
    → table_at (map (column_info t) columns ++ rest) a ≡ Some t
here t [] rest a below = absurd (omega arith)
here t (column ∷ columns) rest zero below = refl
here t (column ∷ columns) rest (suc a) below = here t columns rest a (omega arith)

later : (t : ℕ) (columns : List RawColumn) (rest : List AttrInfo) (a : ℕ) → length columns ≤ a
    → table_at (map (column_info t) columns ++ rest) a ≡ table_at rest (a - length columns)
later t [] rest a past = rw sub-zero refl
later t (column ∷ columns) rest zero past = absurd (omega arith)
later t (column ∷ columns) rest (suc a) past =
    let less : suc a - suc (length columns) ≡ a - length columns = omega arith in
    rw less (later t columns rest a (omega arith))

-- the table of each column is one of those from the first on
pub in_tables : (t : ℕ) (tables : List RawTable) (a : ℕ)
    → IfSome (table_at (columns_from t tables) a) (λ found. (t ≤ found) × (found < t + length tables))
in_tables t [] a = tt
in_tables t (table ∷ others) a = by_place (cases_lt a (length table.columns)) (in_tables (suc t) others (a - length table.columns))
  where
    wider : (o : Option ℕ) → IfSome o (λ found. (suc t ≤ found) × (found < suc t + length others))
        → IfSome o (λ found. (t ≤ found) × (found < t + suc (length others)))
    wider None within = tt
    wider (Some found) within = let low : suc t ≤ found = within.0 in let high : found < suc t + length others = within.1 in (omega arith, omega arith)

    by_place : (a < length table.columns) ⊎ (length table.columns ≤ a)
        → IfSome (table_at (columns_from (suc t) others) (a - length table.columns)) (λ found. (suc t ≤ found) × (found < suc t + length others))
        → IfSome (table_at (columns_from t (table ∷ others)) a) (λ found. (t ≤ found) × (found < t + suc (length others)))
    by_place (inl below) others_within = rw (here t table.columns (columns_from (suc t) others) a below) (omega arith, omega arith)
    by_place (inr past) others_within = rw (later t table.columns (columns_from (suc t) others) a past)
        (wider (table_at (columns_from (suc t) others) (a - length table.columns)) others_within)

placed_from : (t : ℕ) (tables : List RawTable) (a found : ℕ) → table_at (columns_from t tables) a ≡ Some found → t ≤ found
placed_from t tables a found there = (at (table_at (columns_from t tables) a) there (in_tables t tables a))
  where
    at : (o : Option ℕ) → o ≡ Some found → IfSome o (λ found. (t ≤ found) × (found < t + length tables)) → t ≤ found
    at None there within = cc
    at (Some other) there within = let low : t ≤ other = within.0 in let same : other ≡ found = cc in omega arith

-- the set of a table has exactly the places of its columns
abbrev IsListed : ℕ → ℕ → List RawTable → ℕ → TableInfo → Type 0
IsListed first t tables k info = (a : ℕ) →
    (has info.attrs.0 a ≡ true) ↔ ((first ≤ a) × (table_at (columns_from t tables) (a - first) ≡ Some (t + k)))

listed_here : (subjects : List (List ℕ)) (first t : ℕ) (table : RawTable) (others : List RawTable)
    → IsListed first t (table ∷ others) 0 (table_info subjects first table)
listed_here subjects first t table others a = (to, from)
  where
    to : has (ids first (length table.columns)) a ≡ true
        → (first ≤ a) × (table_at (columns_from t (table ∷ others)) (a - first) ≡ Some (t + 0))
    to inside =
        let both = ids-members first (length table.columns) a inside in
        let low : first ≤ a = both.0 in
        let high : a < first + length table.columns = both.1 in
        let same : t + 0 ≡ t = omega arith in
        (low, rw same (here t table.columns (columns_from (suc t) others) (a - first) (omega arith)))

    by_place : first ≤ a → table_at (columns_from t (table ∷ others)) (a - first) ≡ Some (t + 0)
        → (a - first < length table.columns) ⊎ (length table.columns ≤ a - first) → has (ids first (length table.columns)) a ≡ true
    by_place low there (inl below) = ids-from first (length table.columns) a low (omega arith)
    by_place low there (inr past) =
        let there_later = sym (later t table.columns (columns_from (suc t) others) (a - first) past) ∙ there in
        let high : suc t ≤ t + 0 = placed_from (suc t) others (a - first - length table.columns) (t + 0) there_later in
        absurd (omega arith)

    from : (first ≤ a) × (table_at (columns_from t (table ∷ others)) (a - first) ≡ Some (t + 0)) → has (ids first (length table.columns)) a ≡ true
    from both = by_place both.0 both.1 (cases_lt (a - first) (length table.columns))

listed_later : (first t : ℕ) (table : RawTable) (others : List RawTable) (k : ℕ) (info : TableInfo)
    → IsListed (first + length table.columns) (suc t) others k info → IsListed first t (table ∷ others) (suc k) info
listed_later first t table others k info listed a = (to, from)
  where
    same : t + suc k ≡ suc t + k
    same = omega arith

    rest : a - (first + length table.columns) ≡ a - first - length table.columns
    rest = omega arith

    to : has info.attrs.0 a ≡ true → (first ≤ a) × (table_at (columns_from t (table ∷ others)) (a - first) ≡ Some (t + suc k))
    to inside =
        let both = (listed a).0 inside in
        let low : first + length table.columns ≤ a = both.0 in (
          omega arith,
          rw (same, later t table.columns (columns_from (suc t) others) (a - first) (omega arith), ← rest) both.1,
        )

    by_place : first ≤ a → table_at (columns_from t (table ∷ others)) (a - first) ≡ Some (t + suc k)
        → (a - first < length table.columns) ⊎ (length table.columns ≤ a - first) → has info.attrs.0 a ≡ true
    by_place low there (inl below) =
        let t_there = sym (here t table.columns (columns_from (suc t) others) (a - first) below) ∙ there in
        let wrong : t ≡ t + suc k = cc in
        absurd (omega arith)
    by_place low there (inr past) =
        let there_later = sym (later t table.columns (columns_from (suc t) others) (a - first) past) ∙ there in
        (listed a).1 (omega arith, rw (rest, ← same) there_later)

    from : (first ≤ a) × (table_at (columns_from t (table ∷ others)) (a - first) ≡ Some (t + suc k)) → has info.attrs.0 a ≡ true
    from both = by_place both.0 both.1 (cases_lt (a - first) (length table.columns))

all_listed : (subjects : List (List ℕ)) (first t : ℕ) (tables : List RawTable) (k : ℕ)
    → IfSome (slice_get (tables_from subjects first tables) k) (IsListed first t tables k)
all_listed subjects first t [] k = tt
all_listed subjects first t (table ∷ others) zero = listed_here subjects first t table others
all_listed subjects first t (table ∷ others) (suc k) =
    pass (slice_get (tables_from subjects (first + length table.columns) others) k) (all_listed subjects (first + length table.columns) (suc t) others k)
  where
    pass : (o : Option TableInfo) → IfSome o (IsListed (first + length table.columns) (suc t) others k)
        → IfSome o (IsListed first t (table ∷ others) (suc k))
    pass None listed = tt
    pass (Some info) listed = listed_later first t table others k info listed

pub listed : (subjects : List (List ℕ)) (tables : List RawTable) (t : ℕ) → IfSome (slice_get (tables_from subjects 0 tables) t)
    (λ info. (a : ℕ) → (has info.attrs.0 a ≡ true) ↔ (table_at (columns_from 0 tables) a ≡ Some t))
listed subjects tables t = pass (slice_get (tables_from subjects 0 tables) t) (all_listed subjects 0 0 tables t)
  where
    pass : (o : Option TableInfo) → IfSome o (IsListed 0 0 tables t)
        → IfSome o (λ info. (a : ℕ) → (has info.attrs.0 a ≡ true) ↔ (table_at (columns_from 0 tables) a ≡ Some t))
    pass None every = tt
    pass (Some info) every = λ a.
        let whole : a - 0 ≡ a = omega arith in
        let same : 0 + t ≡ t = omega arith in
        ((λ inside. rw (whole, same) at (((every a).0 inside).1)), (λ there. (every a).1 (omega arith, rw (whole, same) there)))

pub placed : (tables : List RawTable) (a : ℕ) → IfSome (table_at (columns_from 0 tables) a) (λ t. t < length tables)
placed tables a = pass (table_at (columns_from 0 tables) a) (in_tables 0 tables a)
  where
    pass : (o : Option ℕ) → IfSome o (λ found. (0 ≤ found) × (found < 0 + length tables)) → IfSome o (λ t. t < length tables)
    pass None within = tt
    pass (Some t) within = let high : t < 0 + length tables = within.1 in omega arith

-- each table's owner, where each is a subject
pub owners_from : (subjects : List (List ℕ)) (first : ℕ) (tables : List RawTable)
    → ((subject : List ℕ) → is_one_of subject subjects ≡ true → (subject_id subjects subject).0 < length subjects)
    → ((k : ℕ) → IfSome (slice_get tables k) (λ table. is_one_of table.owner subjects ≡ true)) → (t : ℕ)
    → IfSome (slice_get (tables_from subjects first tables) t) (λ info. info.owner.0 < length subjects)
owners_from subjects first [] below owned t = tt
owners_from subjects first (table ∷ others) below owned zero = below table.owner (owned 0)
owners_from subjects first (table ∷ others) below owned (suc t) =
    owners_from subjects (first + length table.columns) others below (λ k. owned (suc k)) t
