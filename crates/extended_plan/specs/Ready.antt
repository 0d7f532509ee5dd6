-- What is known of the setting of a job: its nodes are a plan with its facts, and each leaf is the only one of its table, which a
-- subject of the policy stores. docs/MODEL.md, "Extended plans", tells it in prose.
use Rattle.std.specs.Prelude.{◌≡◌, ℕ, ◌<◌, ◌≤◌, length, Some}
use Rattle.mq_base.specs.declared.ids.TableId.{TableId}
use Rattle.mq_base.specs.declared.plan.PlanOp.{PlanOp}
use Rattle.mq_base.specs.declared.plan.PlanOp.TheVariants as op
use Rattle.plan_algebra.specs.Facts.{IsFacts, IsPlan}
use Rattle.extended_plan.specs.Setting.{Setting, leaf_of, op_at, store_of}

-- node n is the only leaf of a table, and a subject of the policy stores that
pub record IsLeafOf (s : Setting) (n : ℕ) (t : TableId) : Type 0 where
  pub only : leaf_of s t ≡ Some n
  pub placed : t.0 < length s.policy.store
  pub stored : (store_of s t).0 < length s.policy.subjects

-- what is said of the table of a leaf, where the operation is one
abbrev pub IfBase : PlanOp → (TableId → Type 0) → Type 0
IfBase (op.Base t used) say = say t
IfBase _ say = Unit {0}

-- the setting of a job
pub record IsReady (s : Setting) : Type 0 where
  pub plan : IsPlan (record { nodes = s.basis.nodes })
  pub facts : IsFacts s.basis.nodes s.basis.facts
  pub few_subjects : length s.policy.subjects ≤ 16
  pub leaves : (n : ℕ) → n < length s.basis.nodes → IfBase (op_at s n) (IsLeafOf s n)
