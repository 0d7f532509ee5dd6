-- Which steps are runnable on tables of these profiles, holders aside: sealed cells compare only where their schemes support
-- it, and are never summed. docs/MODEL.md, "Runnable", tells it in prose.
use Rattle.std.specs.Prelude.{ℕ, Bool, true, false, ◌&&◌, ◌||◌, List, Option, Some, None, if◌then◌else◌}
use Rattle.std.specs.List.{list_all}
use Rattle.base_laws.specs.Sets.{has, members}
use Rattle.mq_base.specs.declared.ids.AttrId.{AttrId}
use Rattle.mq_base.specs.declared.plan.PlanOp.{PlanOp}
use Rattle.mq_base.specs.declared.plan.PlanOp.TheVariants as op
use Rattle.mq_base.specs.declared.query.Agg.{Agg}
use Rattle.mq_base.specs.declared.query.Agg.TheVariants.{Sum, Min, Max}
use Rattle.mq_base.specs.declared.query.CmpOp.{CmpOp}
use Rattle.mq_base.specs.declared.query.CmpOp.TheVariants.{Eq, Lt}
use Rattle.mq_base.specs.declared.table.Scheme.{Scheme}
use Rattle.relation_profile.specs.Profile.{Profile}
use Rattle.mq_base.specs.Schemes.{offers}
use Rattle.relation_profile.specs.Steps.{after_dec, after_enc, after_one, after_two, both}

-- whether an attribute is sealed under a scheme that supports the comparison
abbrev pub is_sealed_for : List Scheme → CmpOp → ℕ → Profile → Bool
is_sealed_for schemes cmp a p = has p.visible_encrypted a && offers schemes cmp a

-- whether an attribute compares so with a constant: it is plain, or sealed under a scheme that supports it
abbrev pub is_comparable : List Scheme → CmpOp → ℕ → Profile → Bool
is_comparable schemes cmp a p = has p.visible_plain a || is_sealed_for schemes cmp a p

-- whether two attributes compare so: both plain, or both sealed under schemes that support it
abbrev pub are_comparable : List Scheme → CmpOp → ℕ → ℕ → Profile → Bool
are_comparable schemes cmp a b p =
    (has p.visible_plain a && has p.visible_plain b) || (is_sealed_for schemes cmp a p && is_sealed_for schemes cmp b p)

-- whether each member of a set compares so
abbrev pub all_comparable : List Scheme → CmpOp → ℕ → Profile → Bool
all_comparable schemes cmp set p = list_all (λ a. is_comparable schemes cmp a p) (members set)

-- whether a function runs over an attribute: a sum over a plain one, a least or greatest value over one whose values have an order
abbrev pub may_fold : List Scheme → Profile → AttrId → Agg → Bool
may_fold schemes p a Sum = has p.visible_plain a.0
may_fold schemes p a Min = is_comparable schemes Lt a.0 p
may_fold schemes p a Max = is_comparable schemes Lt a.0 p

-- whether an operation on one operand is runnable
abbrev pub runs_one : List Scheme → PlanOp → Profile → Bool
runs_one schemes (op.Project kept) p = true
runs_one schemes (op.SelCount cmp n) p = true
runs_one schemes (op.SelConst a cmp x) p = is_comparable schemes cmp a.0 p
runs_one schemes (op.SelAttr a cmp b) p = are_comparable schemes cmp a.0 b.0 p
runs_one schemes (op.Group by aggs count) p =
    all_comparable schemes Eq by.0 p && list_all (λ (under : AttrId × Agg). may_fold schemes p under.0 under.1) aggs
runs_one schemes _ p = false

-- whether an operation on two operands is runnable
abbrev pub runs_two : List Scheme → PlanOp → Profile → Profile → Bool
runs_two schemes op.Product p q = true
runs_two schemes (op.Join a cmp b) p q = are_comparable schemes cmp a.0 b.0 (both p q)
runs_two schemes _ p q = false

-- the profile after a step that is runnable
abbrev pub run_one : List Scheme → PlanOp → Profile → Option Profile
run_one schemes op p = if runs_one schemes op p then Some (after_one op p) else None

abbrev pub run_two : List Scheme → PlanOp → Profile → Profile → Option Profile
run_two schemes op p q = if runs_two schemes op p q then Some (after_two op p q) else None

-- an encryption is runnable on an attribute that is visible in plaintext
abbrev pub run_enc : ℕ → Profile → Option Profile
run_enc a p = if has p.visible_plain a then Some (after_enc a p) else None

-- a decryption is runnable on an attribute that is visible encrypted
abbrev pub run_dec : ℕ → Profile → Option Profile
run_dec a p = if has p.visible_encrypted a then Some (after_dec a p) else None
