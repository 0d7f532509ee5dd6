use Rattle.std.proofs.Common.{◌+◌, ◌-◌, length}
use Rattle.extended_plan.specs.Job.{setting_of}
use Rattle.assign_table.specs.inside.Settling.{IsUnderway}
use Rattle.assign_table.specs.inside.Sheet.{sheet_of}
use Rattle.assign_table.proofs.settle.settle_all.Given as goal

abbrev pub invariant-turns : goal.invariant-turns
invariant-turns l =
    IsUnderway (setting_of l.job) l.node.0 l.room l.initial.arena.items (sheet_of l.initial.table) l.arena.items (sheet_of l.table)

abbrev pub decreases-turns : goal.decreases-turns
decreases-turns l = (length l.initial.arena.items + l.room) + 1 - length l.arena.items
