-- What holds of every accepted policy, and what its sets of attributes mean. docs/FORMATS.md, "Policy file", says the
-- limits, and docs/MODEL.md, "Grants", what a subject may see.
use Rattle.std.specs.Prelude.{◌≡◌, ℕ, ◌<◌, ◌≤◌, true, false, List, length, map, IfSome, slice_get, bytes_eq}
use Rattle.std.specs.List.{IsDistinct}
use Rattle.std.specs.Option.{option_map_or}
use Rattle.std.specs.Str.{IsUtf8}
use Rattle.base_laws.specs.Sets.{has, IsWithin}
use Rattle.mq_base.specs.declared.attr_set.AttrSet.{AttrSet}
use Rattle.mq_base.specs.declared.schema.AttrInfo.{AttrInfo}
use Rattle.mq_base.specs.declared.schema.TableInfo.{TableInfo}
use Rattle.mq_base.specs.Schema.{IsSchema}
use Rattle.policy_base.specs.declared.policy.Policy.{Policy}

-- the set at a place, as a number
abbrev pub set_at : List AttrSet → ℕ → ℕ
set_at sets place = option_map_or (λ (set : AttrSet). set.0) (slice_get sets place) 0

-- what a subject may see plain, and what it may see sealed
abbrev pub plain_of : Policy → ℕ → ℕ
plain_of policy s = set_at policy.plain s

abbrev pub sealed_of : Policy → ℕ → ℕ
sealed_of policy s = set_at policy.sealed s

-- the names of the tables and of the attributes
abbrev pub table_names : Policy → List (List ℕ)
table_names policy = map (λ (info : TableInfo). info.name) policy.schema.tables

abbrev pub attribute_names : Policy → List (List ℕ)
attribute_names policy = map (λ (info : AttrInfo). info.name) policy.schema.attrs

-- a policy within the limits, whose ids are those of its own subjects, tables and attributes; whose names are text, and
-- distinct among those of a kind; in which an owner sees all of its table plain, and nobody sees an attribute both plain
-- and sealed
pub record IsAccepted (policy : Policy) : Type 0 where
  pub some_subject : 1 ≤ length policy.subjects
  pub few_subjects : length policy.subjects ≤ 16
  pub user_listed : policy.user.0 < length policy.subjects
  pub schema : IsSchema policy.schema
  pub owners_listed : (t : ℕ) → IfSome (slice_get policy.schema.tables t) (λ info. info.owner.0 < length policy.subjects)
  pub subjects_are_text : (s : ℕ) → IfSome (slice_get policy.subjects s) IsUtf8
  pub tables_are_text : (t : ℕ) → IfSome (slice_get policy.schema.tables t) (λ info. IsUtf8 info.name)
  pub attributes_are_text : (a : ℕ) → IfSome (slice_get policy.schema.attrs a) (λ info. IsUtf8 info.name)
  pub subjects_differ : IsDistinct bytes_eq policy.subjects
  pub tables_differ : IsDistinct bytes_eq (table_names policy)
  pub attributes_differ : IsDistinct bytes_eq (attribute_names policy)
  pub plain_within : (s a : ℕ) → has (plain_of policy s) a ≡ true → a < length policy.schema.attrs
  pub sealed_within : (s a : ℕ) → has (sealed_of policy s) a ≡ true → a < length policy.schema.attrs
  pub apart : (s a : ℕ) → has (plain_of policy s) a ≡ true → has (sealed_of policy s) a ≡ false
  pub owners_see_all : (t : ℕ) → IfSome (slice_get policy.schema.tables t) (λ info. IsWithin info.attrs.0 (plain_of policy info.owner.0))
  pub store_each : length policy.store ≡ length policy.schema.tables
  pub stores_listed : (t : ℕ) → IfSome (slice_get policy.store t) (λ store. store.0 < length policy.subjects)
  pub rest_within : (a : ℕ) → has policy.rest.0 a ≡ true → a < length policy.schema.attrs
