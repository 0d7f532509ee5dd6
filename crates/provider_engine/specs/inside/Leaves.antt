-- The columns of a leaf: those that are sealed at rest, and those that are plain.
use Rattle.std.specs.Prelude.{◌≡◌, ℕ, Bool, true, false, List, length, filter, take, Option, Some, None}
use Rattle.base_laws.specs.Sets.{has}
use Rattle.column_table.specs.Columns.{Shown}
use Rattle.extended_plan.specs.Setting.{Setting}
use Rattle.key_clusters.specs.Keys.{scheme_at}
use Rattle.mq_base.specs.BoundQuery.{type_at}
use Rattle.mq_base.specs.Schema.{is_column_of}
use Rattle.mq_base.specs.declared.schema.Schema.{Schema}
use Rattle.mq_base.specs.declared.table.PlainTable.{PlainTable}
use Rattle.mq_base.specs.declared.value.Value.{Value}
use Rattle.mq_base.specs.declared.value.ValueType.{ValueType}
use Rattle.provider_engine.specs.Opening.{listed_key}
use Rattle.provider_engine.specs.inside.Sealing.{IsLocked, plain_column}
use Rattle.row_algebra.specs.Contents.{column_of, owns}

-- the attributes of a set are a table's own
pub record AreOwn (schema : Schema) (t members : ℕ) : Type 0 where
  pub owned : (a : ℕ) → has members a ≡ true → owns schema t a ≡ true

-- how many of the attributes before this one are a table's own
abbrev pub place_of : Schema → ℕ → ℕ → ℕ
place_of schema t a = length (filter (is_column_of t) (take a schema.attrs))

-- the values of an attribute in a table, with their type
pub record HasValues (schema : Schema) (table : PlainTable) (a : ℕ) (ty : ValueType) (values : List Value) : Type 0 where
  pub typed : type_at schema a ≡ Some ty
  pub there : column_of schema table a ≡ Some values

-- a column is that of a table's values of an attribute, sealed
pub record IsLockedOf (s : Setting) (keys : List (List ℕ)) (place : ℕ) (table : PlainTable) (a : ℕ) (c : Shown) : Type 0 where
  pub ty : ValueType
  pub values : List Value
  pub of : HasValues s.policy.schema table a ty values
  pub locked : IsLocked (scheme_at s.basis.clusters a) (listed_key keys a) place ty values c

-- a column is that of a table's values of an attribute, plain
pub record IsPlainOf (schema : Schema) (table : PlainTable) (a : ℕ) (c : Shown) : Type 0 where
  pub ty : ValueType
  pub values : List Value
  pub of : HasValues schema table a ty values
  pub plain : c ≡ plain_column ty values

-- the column of an attribute is sealed from the table's values, where that is asked, and else it is not there
abbrev pub IsRestAt : Setting → List (List ℕ) → ℕ → PlainTable → ℕ → Bool → Option Shown → Type 0
IsRestAt s keys place table a true (Some c) = IsLockedOf s keys place table a c
IsRestAt s keys place table a true None = ⊥
IsRestAt s keys place table a false o = o ≡ None

-- the column of an attribute has the table's values, where that is asked, and else it is as before
abbrev pub IsMovedAt : Schema → PlainTable → ℕ → Bool → Option Shown → Option Shown → Type 0
IsMovedAt schema table a true before (Some c) = IsPlainOf schema table a c
IsMovedAt schema table a true before None = ⊥
IsMovedAt schema table a false before o = o ≡ before
