-- The tests of limits, names, owners and the user, each a fault or a pass at its place.
-- docs/FORMATS.md, "Policy file", lists them in the order in which the first fault is told.
use Rattle.std.specs.Prelude.{ℕ, ◌+◌, Bool, not, ◌||◌, nat_lt, List, length, take, Option, Some, None, bytes_eq, if◌then◌else◌}
use Rattle.std.specs.List.{list_any, sum_by}
use Rattle.std.specs.Option.{option_or}
use Rattle.base_laws.specs.Firsts.{first_at, test_at}
use Rattle.mq_base.specs.declared.refusal.Refusal.{Refusal}
use Rattle.mq_base.specs.Refusal.{refusal}
use Rattle.policy_reader.specs.declared.raw.RawColumn.{RawColumn}
use Rattle.policy_reader.specs.declared.raw.RawTable.{RawTable}
use Rattle.policy_reader.specs.declared.refusal.PolicyCode.{PolicyCode}
use Rattle.policy_reader.specs.declared.refusal.PolicyCode.TheVariants.{BadName, RepeatedName, UnknownOwner, UnknownSubject, TooMany}
use Rattle.policy_reader.specs.Codes.{number_of}
use Rattle.policy_base.specs.Names.{is_one_of}
use Rattle.policy_reader.specs.Names.{is_name, is_subject_name}

-- a fault with its places
abbrev pub fault : PolicyCode → ℕ → ℕ → Option Refusal
fault code at item = Some (refusal (number_of code) at item)

-- whether a table, and whether a column, has this name
abbrev pub is_table : List ℕ → RawTable → Bool
is_table name table = bytes_eq table.name name

abbrev pub is_column : List ℕ → RawColumn → Bool
is_column name column = bytes_eq column.name name

-- whether a column of these, or of one of these tables, has this name
abbrev pub has_column : List ℕ → List RawColumn → Bool
has_column name columns = list_any (is_column name) columns

abbrev pub have_column : List ℕ → List RawTable → Bool
have_column name tables = list_any (λ table. has_column name table.columns) tables

-- the number of columns of all these tables
abbrev pub column_count : List RawTable → ℕ
column_count tables = sum_by (λ (table : RawTable). length table.columns) tables

-- TooMany, where a number is larger than its limit
abbrev pub over : ℕ → ℕ → ℕ → Option Refusal
over limit number at = if nat_lt limit number then fault TooMany at 0 else None

-- more than 16 subjects, more than 8 tables, more than 64 columns in all
abbrev pub limit_fault : List (List ℕ) → List RawTable → Option Refusal
limit_fault subjects tables =
    option_or (over 16 (length subjects) 0) (option_or (over 8 (length tables) 1) (over 64 (column_count tables) 2))

-- BadName where a name breaks the name rule, and else RepeatedName where it stands earlier
abbrev pub name_fault : Bool → Bool → ℕ → ℕ → Option Refusal
name_fault well earlier at item =
    if not well then fault BadName at item else if earlier then fault RepeatedName at item else None

-- a subject's name
abbrev pub subject_fault : List (List ℕ) → ℕ → Option Refusal
subject_fault subjects at = test_at (λ name. name_fault (is_subject_name name) (is_one_of name (take at subjects)) at 0) subjects at

-- a table's name
abbrev pub table_fault : List RawTable → ℕ → Option Refusal
table_fault tables at = test_at (λ (table : RawTable). name_fault (is_name table.name) (list_any (is_table table.name) (take at tables)) at 0) tables at

-- a column's name: all columns of all tables are one kind
abbrev pub column_fault : List RawTable → List RawColumn → ℕ → ℕ → Option Refusal
column_fault earlier columns at place = test_at
    (λ (column : RawColumn). name_fault (is_name column.name)
    (have_column column.name earlier || has_column column.name (take place columns)) at (place + 1))
    columns place

-- the names of a table's columns
abbrev pub columns_fault : List RawTable → ℕ → Option Refusal
columns_fault tables at =
    test_at (λ (table : RawTable). first_at (column_fault (take at tables) table.columns at) 0 (length table.columns)) tables at

-- a table's name, and the names of its columns
abbrev pub table_names_fault : List RawTable → ℕ → Option Refusal
table_names_fault tables at = option_or (table_fault tables at) (columns_fault tables at)

-- all names: the subjects, then for each table its name and its columns
abbrev pub names_fault : List (List ℕ) → List RawTable → Option Refusal
names_fault subjects tables =
    option_or (first_at (subject_fault subjects) 0 (length subjects)) (first_at (table_names_fault tables) 0 (length tables))

-- a table's owner is a subject
abbrev pub owner_fault : List (List ℕ) → List RawTable → ℕ → Option Refusal
owner_fault subjects tables at =
    test_at (λ (table : RawTable). if is_one_of table.owner subjects then None else fault UnknownOwner at 0) tables at

-- the user is a subject
abbrev pub user_fault : List (List ℕ) → List ℕ → Option Refusal
user_fault subjects user = if is_one_of user subjects then None else fault UnknownSubject 0 1
