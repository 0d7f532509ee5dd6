-- The names of a policy's tables, attributes and subjects by their ids, and whether a text is one of several names.
-- docs/FORMATS.md, "Policy file".
use Rattle.std.specs.Prelude.{ℕ, Bool, List, codes, slice_get, bytes_eq}
use Rattle.std.specs.List.{list_any}
use Rattle.std.specs.Option.{option_map_or}
use Rattle.mq_base.specs.declared.ids.AttrId.{AttrId}
use Rattle.mq_base.specs.declared.ids.SubjectId.{SubjectId}
use Rattle.mq_base.specs.declared.ids.TableId.{TableId}
use Rattle.mq_base.specs.declared.schema.AttrInfo.{AttrInfo}
use Rattle.mq_base.specs.declared.schema.Schema.{Schema}
use Rattle.mq_base.specs.declared.schema.TableInfo.{TableInfo}
use Rattle.policy_base.specs.declared.policy.Policy.{Policy}

-- the name of a table, of an attribute and of a subject; empty where there is none
abbrev pub table_name : Policy → TableId → List ℕ
table_name p t = option_map_or (λ (info : TableInfo). info.name) (slice_get p.schema.tables t.0) (codes "")

abbrev pub attribute_name : Schema → AttrId → List ℕ
attribute_name schema a = option_map_or (λ (info : AttrInfo). info.name) (slice_get schema.attrs a.0) (codes "")

abbrev pub subject_name : Policy → SubjectId → List ℕ
subject_name p s = option_map_or (λ (name : List ℕ). name) (slice_get p.subjects s.0) (codes "")

-- whether the text is one of the names
abbrev pub is_one_of : List ℕ → List (List ℕ) → Bool
is_one_of text names = list_any (λ name. bytes_eq name text) names
