-- Facts that a type keeps have one proof at most.
use Rattle.std.proofs.Common.{ℕ}
use Rattle.std.proofs.Props.{props}
use Rattle.mq_base.specs.declared.plan.PlanOp.{PlanOp}
use Rattle.mq_base.specs.declared.plan.PlanOp.TheVariants as op
use Rattle.plan_algebra.specs.PropLaws.{IsFacts-prop, IsPlan-prop}
use Rattle.extended_plan.specs.Ready.{IfBase, IsLeafOf, IsReady}
use Rattle.extended_plan.specs.Setting.{Setting}

IfBase-prop : (s : Setting) (n : ℕ) (o : PlanOp) → IsProp (IfBase o (IsLeafOf s n))
IfBase-prop s n (op.Base t used) = hlevel props
IfBase-prop s n _ = hlevel props

pub IsReady-prop : (s : Setting) → IsProp (IsReady s)
IsReady-prop s = hlevel (props, IsPlan-prop, IsFacts-prop, IfBase-prop)
