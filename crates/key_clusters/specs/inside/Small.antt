-- That the attributes that an operation names are below 64, so that they are members of a set of attributes. Only private functions
-- speak of it.
use Rattle.std.specs.Prelude.{◌<◌, All}
use Rattle.mq_base.specs.declared.plan.PlanOp.{PlanOp}
use Rattle.mq_base.specs.declared.plan.PlanOp.TheVariants as op
use Rattle.mq_base.specs.Small.{IsSmallAgg}

-- the attributes that an operation compares, and those under its functions, are below 64
abbrev pub IsSmallOp : PlanOp → Type 0
IsSmallOp (op.SelConst a cmp x) = a.0 < 64
IsSmallOp (op.SelAttr a cmp b) = (a.0 < 64) × (b.0 < 64)
IsSmallOp (op.Join a cmp b) = (a.0 < 64) × (b.0 < 64)
IsSmallOp (op.Group by aggs count) = All IsSmallAgg aggs
IsSmallOp _ = Unit {0}
