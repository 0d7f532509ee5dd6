-- The form of a policy file: the plain lists that a TOML tree stands for, where it has the form.
-- docs/FORMATS.md, "Policy file", has the table of keys.
use Rattle.std.specs.Prelude.{[], ◌∷◌, Option, Some, None, bytes_eq, codes, if◌then◌else◌}
use Rattle.toml.specs.Data.{Data, Members, as_str, as_table}
use Rattle.mq_base.specs.declared.value.ValueType.{ValueType}
use Rattle.mq_base.specs.declared.value.ValueType.TheVariants as type
use Rattle.toml_tree.specs.Form.{◌>>=◌, has_only, field, list_field, list_as, filled, version_as}
use Rattle.policy_reader.specs.declared.raw.RawColumn.{RawColumn}
use Rattle.policy_reader.specs.declared.raw.RawTable.{RawTable}
use Rattle.policy_reader.specs.declared.raw.RawRule.{RawRule}
use Rattle.policy_reader.specs.declared.raw.RawPolicy.{RawPolicy}

-- the type of a column
abbrev pub type_as : Data → Option ValueType
type_as value = as_str value >>= (λ text.
    if bytes_eq text (codes "INT") then Some type.Int else if bytes_eq text (codes "TEXT") then Some type.Text else None)

-- a column: exactly a name and a type
abbrev pub column_of : Members → Option RawColumn
column_of entries =
    field as_str (codes "name") entries >>= (λ name.
    field type_as (codes "type") entries >>= (λ ty.
    Some (record { name = name; ty = ty })))

abbrev pub column_as : Data → Option RawColumn
column_as value = as_table value >>= (λ entries.
    if has_only (codes "name" ∷ codes "type" ∷ []) entries then column_of entries else None)

-- a table: exactly a name, an owner, and at least one column
abbrev pub table_of : Members → Option RawTable
table_of entries =
    field as_str (codes "name") entries >>= (λ name.
    field as_str (codes "owner") entries >>= (λ owner.
    field (list_as column_as) (codes "columns") entries >>= (λ columns.
    filled columns >>= (λ columns.
    Some (record { name = name; owner = owner; columns = columns })))))

abbrev pub table_as : Data → Option RawTable
table_as value = as_table value >>= (λ entries.
    if has_only (codes "name" ∷ codes "owner" ∷ codes "columns" ∷ []) entries then table_of entries else None)

-- a rule: a table, a subject, and two lists that may be missing
abbrev pub rule_of : Members → Option RawRule
rule_of entries =
    field as_str (codes "table") entries >>= (λ table.
    field as_str (codes "subject") entries >>= (λ subject.
    list_field (list_as as_str) (codes "plain") entries >>= (λ plain.
    list_field (list_as as_str) (codes "sealed") entries >>= (λ sealed.
    Some (record { table = table; subject = subject; plain = plain; sealed = sealed })))))

abbrev pub rule_as : Data → Option RawRule
rule_as value = as_table value >>= (λ entries.
    if has_only (codes "table" ∷ codes "subject" ∷ codes "plain" ∷ codes "sealed" ∷ []) entries then rule_of entries else None)

-- a whole policy: a version, a user, at least one subject, at least one table, and rules that may be missing
abbrev pub policy_of : Members → Option RawPolicy
policy_of entries =
    field version_as (codes "version") entries >>= (λ _.
    field as_str (codes "user") entries >>= (λ user.
    field (list_as as_str) (codes "subjects") entries >>= (λ subjects.
    filled subjects >>= (λ subjects.
    field (list_as table_as) (codes "table") entries >>= (λ tables.
    filled tables >>= (λ tables.
    list_field (list_as rule_as) (codes "rule") entries >>= (λ rules.
    Some (record { user = user; subjects = subjects; tables = tables; rules = rules }))))))))

abbrev pub policy_as : Data → Option RawPolicy
policy_as value = as_table value >>= (λ entries.
    if has_only (codes "version" ∷ codes "user" ∷ codes "subjects" ∷ codes "table" ∷ codes "rule" ∷ []) entries
    then policy_of entries else None)
