-- That columns which a subject may see in no form do not matter to a table that it holds. docs/MODEL.md, "Encoded run", tells it in prose.
use Rattle.std.specs.Prelude.{◌≡◌, ℕ, true, Some, bit_or}
use Rattle.base_laws.specs.Sets.{has}
use Rattle.column_table.specs.Cells.{Seals}
use Rattle.extended_plan.specs.Setting.{Setting, leaf_of}
use Rattle.extended_plan.specs.Term.{Term, holder}
use Rattle.extended_plan.specs.Validity.{StandsAt}
use Rattle.mq_base.specs.declared.ids.SubjectId.{SubjectId}
use Rattle.mq_base.specs.declared.ids.TableId.{TableId}
use Rattle.mq_base.specs.declared.value.Value.{Value}
use Rattle.policy_base.specs.Accepted.{plain_of, sealed_of}
use Rattle.provider_engine.specs.Run.{enc_run}
use Rattle.row_algebra.specs.Contents.{Contents, HaveForm}
use Rattle.row_algebra.specs.Likeness.{Beside}
use Rattle.row_algebra.specs.Rows.{RowOf}

-- the attributes that a subject may see plain or sealed
abbrev pub seen_by : Setting → SubjectId → ℕ
seen_by s subject = bit_or (plain_of s.policy subject.0) (sealed_of s.policy subject.0)

-- two rows have the same cells of the attributes of a set
abbrev pub AreSameIn : ℕ → RowOf Value → RowOf Value → Type 0
AreSameIn set u v = (a : ℕ) → has set a ≡ true → u.cell a ≡ v.cell a

-- two contents agree for a subject: each table of the query has as many rows in both, with the same cells of the attributes that the
-- subject may see
abbrev pub Agree : Setting → SubjectId → Contents → Contents → Type 0
Agree s subject contents others = (t : TableId) (n : ℕ) → leaf_of s t ≡ Some n
    → Beside (AreSameIn (seen_by s subject)) (contents t.0) (others t.0)

-- a table that a subject holds is the same over two contents that agree for it
abbrev pub HiddenColumnsDoNotMatter : Type 0
HiddenColumnsDoNotMatter = (s : Setting) (seals : Seals) (contents others : Contents) → HaveForm s.policy.schema contents
    → HaveForm s.policy.schema others → (n start : ℕ) (y : Term) → StandsAt s n y → Agree s (holder s y) contents others
    → enc_run s seals contents start y ≡ enc_run s seals others start y
