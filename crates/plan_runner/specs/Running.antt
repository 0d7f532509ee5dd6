-- What a run of an extended plan is asked for, and where it stops. docs/MODEL.md, "Encoded run", tells it in prose.
use Rattle.std.specs.Prelude.{◌≡◌, ℕ, ◌<◌, List, length}
use Rattle.mq_base.specs.declared.plan.Step.{Step}
use Rattle.extended_plan.specs.Setting.{Setting}
use Rattle.extended_plan.specs.Term.{Term, spell}
use Rattle.extended_plan.specs.Validity.{IsValid}
use Rattle.provider_engine.specs.Wide.{IsWide}
use Rattle.row_algebra.specs.Contents.{Contents}

-- the steps spell a valid extended plan
pub record IsSpelt (s : Setting) (steps : List Step) : Type 0 where
  pub term : Term
  pub valid : IsValid s term
  pub spelt : spell term ≡ steps

-- no node of the plan is wide
abbrev pub IsNarrow : Setting → Contents → Type 0
IsNarrow s contents = (n : ℕ) → n < length s.basis.nodes → IsWide contents s.basis.nodes n → ⊥

-- node n is the least that is wide
pub record IsFirstWide (s : Setting) (contents : Contents) (n : ℕ) : Type 0 where
  pub below : n < length s.basis.nodes
  pub wide : IsWide contents s.basis.nodes n
  pub first : (m : ℕ) → m < n → IsWide contents s.basis.nodes m → ⊥
