-- What the schema of an accepted policy is, and the columns of a table. docs/FORMATS.md, "Policy file", says the limits.
use Rattle.std.specs.Prelude.{◌≡◌, ℕ, ◌<◌, ◌≤◌, ◌==◌, ◌↔◌, Bool, true, List, length, filter, Option, Some, IfSome, slice_get, option_map}
use Rattle.base_laws.specs.Sets.{has}
use Rattle.mq_base.specs.declared.schema.AttrInfo.{AttrInfo}
use Rattle.mq_base.specs.declared.schema.Schema.{Schema}

-- whether a column is one of this table
abbrev pub is_column_of : ℕ → AttrInfo → Bool
is_column_of t info = info.table.0 == t

-- the columns of a table, in the order of the policy
abbrev pub columns_of : Schema → ℕ → List AttrInfo
columns_of schema t = filter (is_column_of t) schema.attrs

-- the table of an attribute, where there is such an attribute
abbrev pub table_of : Schema → ℕ → Option ℕ
table_of schema a = option_map (λ (info : AttrInfo). info.table.0) (slice_get schema.attrs a)

-- a schema within the limits, in which each column belongs to a table, and each table's set has exactly its columns
pub record IsSchema (schema : Schema) : Type 0 where
  pub few_tables : length schema.tables ≤ 8
  pub few_attributes : length schema.attrs ≤ 64
  pub placed : (a : ℕ) → IfSome (table_of schema a) (λ t. t < length schema.tables)
  pub listed : (t : ℕ) → IfSome (slice_get schema.tables t) (λ info. (a : ℕ) →
      (has info.attrs.0 a ≡ true) ↔ (table_of schema a ≡ Some t))
