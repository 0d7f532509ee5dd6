-- What the operation of a node asks of its tables, where it groups or is on two tables, and what the result has of them.
use Rattle.column_table.specs.declared.table.Table.{Table}
use Rattle.column_table.specs.Beside.{IsJoinOn}
use Rattle.column_table.specs.Groups.{IsGroupFrom, IsGroupOn}
use Rattle.mq_base.specs.declared.plan.PlanOp.{PlanOp}
use Rattle.mq_base.specs.declared.plan.PlanOp.TheVariants as op

-- an operation that groups, with what it asks of a table
abbrev pub IsGroupFit : PlanOp → Table → Type 0
IsGroupFit (op.Group by aggs count) table = IsGroupOn table by.0 aggs
IsGroupFit _ table = ⊥

-- a table is what such an operation makes of another
abbrev pub IsGroupMade : PlanOp → Table → Table → Type 0
IsGroupMade (op.Group by aggs count) table made = IsGroupFrom by.0 aggs count table made
IsGroupMade _ table made = ⊥

-- an operation on two tables, a product or a join, with what it asks of them
abbrev pub IsOnTables : PlanOp → Table → Table → Type 0
IsOnTables op.Product left right = Unit {0}
IsOnTables (op.Join a cmp b) left right = IsJoinOn left right a b
IsOnTables _ left right = ⊥
