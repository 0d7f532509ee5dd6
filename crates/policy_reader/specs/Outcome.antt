-- START HERE. The policy that the bytes of a file stand for, or their first fault: what `read_policy` answers.
-- docs/FORMATS.md, "Policy file", tells it in prose.
use Rattle.std.specs.Prelude.{ℕ, ◌+◌, ◌-◌, suc, List, [], ◌∷◌, ◌++◌, length, map, replicate, Result, position, unwrap_or, bytes_eq}
use Rattle.mq_base.specs.declared.ids.SubjectId.{SubjectId}
use Rattle.mq_base.specs.declared.attr_set.AttrSet.{AttrSet}
use Rattle.mq_base.specs.declared.refusal.Refusal.{Refusal}
use Rattle.mq_base.specs.declared.schema.AttrInfo.{AttrInfo}
use Rattle.mq_base.specs.declared.schema.TableInfo.{TableInfo}
use Rattle.mq_base.specs.declared.table.Scheme.TheVariants as scheme
use Rattle.toml_tree.specs.Outcome.{file_outcome}
use Rattle.policy_base.specs.declared.policy.Policy.{Policy}
use Rattle.policy_reader.specs.declared.raw.RawColumn.{RawColumn}
use Rattle.policy_reader.specs.declared.raw.RawTable.{RawTable}
use Rattle.policy_reader.specs.declared.raw.RawPolicy.{RawPolicy}
use Rattle.policy_reader.specs.Shape.{policy_as}
use Rattle.policy_reader.specs.Rules.{first_fault}
use Rattle.policy_reader.specs.Grants.{set_of, ids, all_plain, all_sealed}

-- the id of a subject: its place in the file's list
abbrev pub subject_id : List (List ℕ) → List ℕ → SubjectId
subject_id subjects subject = record { 0 = unwrap_or (position (λ name. bytes_eq name subject) subjects) 0 }

-- a table whose first column has the id `first`: its name, its owner's id, and the set of its columns' ids
abbrev pub table_info : List (List ℕ) → ℕ → RawTable → TableInfo
table_info subjects first table = record {
  name = table.name;
  owner = subject_id subjects table.owner;
  attrs = set_of (ids first (length table.columns));
}

-- the tables, in the order of the file; the first column of the first has the id `first`
abbrev pub tables_from : List (List ℕ) → ℕ → List RawTable → List TableInfo
tables_from subjects first [] = []
tables_from subjects first (table ∷ others) =
    table_info subjects first table ∷ tables_from subjects (first + length table.columns) others

-- a column of the table with this id
abbrev pub column_info : ℕ → RawColumn → AttrInfo
column_info t column = record { name = column.name; ty = column.ty; table = record { 0 = t } }

-- the columns of all tables, in the order of the file; the first table has the id t
abbrev pub columns_from : ℕ → List RawTable → List AttrInfo
columns_from t [] = []
columns_from t (table ∷ others) = map (column_info t) table.columns ++ columns_from (suc t) others

-- a set for each of the 16 places: that of each subject, and then empty ones
abbrev pub sixteen : (List ℕ → ℕ) → List (List ℕ) → List AttrSet
sixteen set subjects = map (λ subject. set_of (set subject)) subjects ++ replicate (16 - length subjects) (set_of 0)

-- the policy that the lists stand for; in a file of version 1 each table is stored by its owner, nothing is sealed at
-- rest, and each column may be sealed under any scheme
abbrev pub policy_value : RawPolicy → Policy
policy_value raw = record {
  schema = record { tables = tables_from raw.subjects 0 raw.tables; attrs = columns_from 0 raw.tables };
  subjects = raw.subjects;
  user = subject_id raw.subjects raw.user;
  plain = sixteen (all_plain raw.tables raw.rules) raw.subjects;
  sealed = sixteen (all_sealed raw.tables raw.rules) raw.subjects;
  store = map (λ (table : RawTable). subject_id raw.subjects table.owner) raw.tables;
  rest = set_of 0;
  ceiling = replicate 64 scheme.Ope;
}

-- the policy that a file stands for, or its first fault: no document, not the form, or the first fault of its lists
abbrev pub policy_outcome : List ℕ → Result Policy Refusal
policy_outcome bytes = file_outcome policy_as first_fault policy_value bytes
