-- Words of private functions alone: what the rule `any` says on a table, taken once for all subjects.
use Rattle.std.specs.Prelude.{ℕ, List, slice_get}
use Rattle.std.specs.Option.{option_map_or}
use Rattle.policy_reader.specs.declared.grants.Grant.{Grant}
use Rattle.policy_reader.specs.declared.raw.RawTable.{RawTable}
use Rattle.policy_reader.specs.declared.raw.RawRule.{RawRule}
use Rattle.policy_reader.specs.Names.{any_subject}
use Rattle.policy_reader.specs.Grants.{first_id, nothing, rule_for, said}

-- what the rule `any` says on the table with this id
abbrev pub any_grant : List RawTable → List RawRule → ℕ → Grant
any_grant tables rules t = option_map_or
    (λ (table : RawTable). said (first_id tables t) table (rule_for table any_subject rules)) (slice_get tables t) nothing
