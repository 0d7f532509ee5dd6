-- The tests of a rule, each a fault or a pass at its place. docs/FORMATS.md, "Policy file", lists them in the order
-- in which the first fault is told.
use Rattle.std.specs.Prelude.{ℕ, ◌+◌, Bool, not, ◌&&◌, ◌||◌, List, length, take, Option, Some, None, find, bytes_eq, if◌then◌else◌}
use Rattle.std.specs.List.{list_any}
use Rattle.std.specs.Option.{option_or}
use Rattle.base_laws.specs.Firsts.{first_at, test_at}
use Rattle.mq_base.specs.declared.refusal.Refusal.{Refusal}
use Rattle.policy_reader.specs.declared.raw.RawColumn.{RawColumn}
use Rattle.policy_reader.specs.declared.raw.RawTable.{RawTable}
use Rattle.policy_reader.specs.declared.raw.RawRule.{RawRule}
use Rattle.policy_reader.specs.declared.raw.RawPolicy.{RawPolicy}
use Rattle.policy_reader.specs.declared.refusal.PolicyCode.TheVariants.{UnknownSubject, UnknownTable, UnknownAttribute, Overlap, RuleForOwner, RepeatedRule}
use Rattle.policy_base.specs.Names.{is_one_of}
use Rattle.policy_reader.specs.Names.{any_subject}
use Rattle.policy_reader.specs.Faults.{fault, is_table, has_column, limit_fault, names_fault, owner_fault, user_fault}

-- whether a rule is the one for this table and this subject
abbrev pub is_rule : List ℕ → List ℕ → RawRule → Bool
is_rule table subject rule = bytes_eq rule.table table && bytes_eq rule.subject subject

-- whether a rule may speak of this subject: one of the policy, or `any`
abbrev pub may_speak_of : List (List ℕ) → List ℕ → Bool
may_speak_of subjects subject = is_one_of subject subjects || bytes_eq subject any_subject

-- a string is a column of the rule's table
abbrev pub unknown_fault : List RawColumn → ℕ → ℕ → List ℕ → Option Refusal
unknown_fault columns at item name = if has_column name columns then None else fault UnknownAttribute at item

-- a string does not stand in `plain`
abbrev pub overlap_fault : List (List ℕ) → ℕ → ℕ → List ℕ → Option Refusal
overlap_fault plain at item name = if is_one_of name plain then fault Overlap at item else None

-- a string of `plain`
abbrev pub plain_fault : List RawColumn → List (List ℕ) → ℕ → ℕ → Option Refusal
plain_fault columns plain at place = test_at (unknown_fault columns at place) plain place

-- the string of `sealed` at a place; its item counts on from those of `plain`
abbrev pub sealed_string_fault : List RawColumn → List (List ℕ) → ℕ → ℕ → List ℕ → Option Refusal
sealed_string_fault columns plain at place name =
    option_or (unknown_fault columns at (length plain + place) name) (overlap_fault plain at (length plain + place) name)

abbrev pub sealed_fault : List RawColumn → List (List ℕ) → List (List ℕ) → ℕ → ℕ → Option Refusal
sealed_fault columns plain sealed at place = test_at (sealed_string_fault columns plain at place) sealed place

-- the strings of a rule: those of `plain`, then those of `sealed`
abbrev pub strings_fault : List RawColumn → List (List ℕ) → List (List ℕ) → ℕ → Option Refusal
strings_fault columns plain sealed at =
    option_or (first_at (plain_fault columns plain at) 0 (length plain))
    (first_at (sealed_fault columns plain sealed at) 0 (length sealed))

-- a rule for a table that the policy has
abbrev pub rule_fault_for : List (List ℕ) → List RawRule → ℕ → RawRule → RawTable → Option Refusal
rule_fault_for subjects earlier at rule table =
    if not (may_speak_of subjects rule.subject) then fault UnknownSubject at 0
    else if bytes_eq rule.subject table.owner then fault RuleForOwner at 0
    else if list_any (is_rule rule.table rule.subject) earlier then fault RepeatedRule at 0
    else strings_fault table.columns rule.plain rule.sealed at

-- a rule whose table was sought
abbrev pub rule_fault_in : List (List ℕ) → List RawRule → ℕ → RawRule → Option RawTable → Option Refusal
rule_fault_in subjects earlier at rule None = fault UnknownTable at 0
rule_fault_in subjects earlier at rule (Some table) = rule_fault_for subjects earlier at rule table

-- a rule
abbrev pub rule_fault : List (List ℕ) → List RawTable → List RawRule → ℕ → Option Refusal
rule_fault subjects tables rules at =
    test_at (λ (rule : RawRule). rule_fault_in subjects (take at rules) at rule (find (is_table rule.table) tables)) rules at

-- the first fault of a policy, in the order of the tests
abbrev pub first_fault : RawPolicy → Option Refusal
first_fault raw =
    option_or (limit_fault raw.subjects raw.tables)
    (option_or (names_fault raw.subjects raw.tables)
    (option_or (first_at (owner_fault raw.subjects raw.tables) 0 (length raw.tables))
    (option_or (user_fault raw.subjects raw.user)
    (first_at (rule_fault raw.subjects raw.tables raw.rules) 0 (length raw.rules)))))
