-- What each subject may see: the grants of a policy. docs/MODEL.md, "Grants", tells it in prose.
use Rattle.std.specs.Prelude.{ℕ, ◌+◌, ◌^◌, List, length, take, Option, Some, None, slice_get, find, position, bytes_eq, if◌then◌else◌}
use Rattle.std.specs.Option.{option_or, option_map_or}
use Rattle.base_laws.specs.Folds.{union_to}
use Rattle.mq_base.specs.declared.attr_set.AttrSet.{AttrSet}
use Rattle.policy_reader.specs.declared.grants.Grant.{Grant}
use Rattle.policy_reader.specs.declared.raw.RawColumn.{RawColumn}
use Rattle.policy_reader.specs.declared.raw.RawTable.{RawTable}
use Rattle.policy_reader.specs.declared.raw.RawRule.{RawRule}
use Rattle.policy_reader.specs.Names.{any_subject}
use Rattle.policy_reader.specs.Faults.{is_column, column_count}
use Rattle.policy_reader.specs.Rules.{is_rule}

-- a set of attributes from its number
abbrev pub set_of : ℕ → AttrSet
set_of number = record { 0 = number }

-- the id of a table's first column: the columns of all tables have ids in the order of the file
abbrev pub first_id : List RawTable → ℕ → ℕ
first_id tables t = column_count (take t tables)

-- the set of n ids from the first on
abbrev pub ids : ℕ → ℕ → ℕ
ids first n = union_to (λ place. 2 ^ (first + place)) n

-- the set of one column, where it was found
abbrev pub single : ℕ → Option ℕ → ℕ
single first None = 0
single first (Some place) = 2 ^ (first + place)

-- the set of the column with this name
abbrev pub named : ℕ → List RawColumn → List ℕ → ℕ
named first columns name = single first (position (is_column name) columns)

-- the set of the column that the string at a place of a list names
abbrev pub named_at : ℕ → List RawColumn → List (List ℕ) → ℕ → ℕ
named_at first columns names place = option_map_or (named first columns) (slice_get names place) 0

-- the set of the columns that a list names; the same name twice counts once
abbrev pub listed : ℕ → List RawColumn → List (List ℕ) → ℕ
listed first columns names = union_to (named_at first columns names) (length names)

-- a grant of nothing
abbrev pub nothing : Grant
nothing = record { plain = set_of 0; sealed = set_of 0 }

-- everything of a table plain
abbrev pub everything : ℕ → RawTable → Grant
everything first table = record { plain = set_of (ids first (length table.columns)); sealed = set_of 0 }

-- what a rule for a table says
abbrev pub rule_grant : ℕ → RawTable → RawRule → Grant
rule_grant first table rule =
    record { plain = set_of (listed first table.columns rule.plain); sealed = set_of (listed first table.columns rule.sealed) }

-- the rule for this table and this subject
abbrev pub rule_for : RawTable → List ℕ → List RawRule → Option RawRule
rule_for table subject rules = find (is_rule table.name subject) rules

-- what a rule says, and nothing where there is none
abbrev pub said : ℕ → RawTable → Option RawRule → Grant
said first table rule = option_map_or (rule_grant first table) rule nothing

-- the grant to a subject on a table: everything plain where the subject owns it; else what its own rule says;
-- else what the rule `any` says; else nothing
abbrev pub table_grant : List RawRule → List ℕ → ℕ → RawTable → Grant
table_grant rules subject first table =
    if bytes_eq subject table.owner then everything first table
    else said first table (option_or (rule_for table subject rules) (rule_for table any_subject rules))

-- the grant on the table with this id
abbrev pub grant : List RawTable → List RawRule → List ℕ → ℕ → Grant
grant tables rules subject t = option_map_or (table_grant rules subject (first_id tables t)) (slice_get tables t) nothing

-- all that a subject may see plain, and all that it may see sealed: the unions over all tables
abbrev pub all_plain : List RawTable → List RawRule → List ℕ → ℕ
all_plain tables rules subject = union_to (λ t. (grant tables rules subject t).plain.0) (length tables)

abbrev pub all_sealed : List RawTable → List RawRule → List ℕ → ℕ
all_sealed tables rules subject = union_to (λ t. (grant tables rules subject t).sealed.0) (length tables)
