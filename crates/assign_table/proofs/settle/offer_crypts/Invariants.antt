use Rattle.base_laws.specs.Sets.{IsWithin}
use Rattle.extended_plan.specs.Gains.{crossable}
use Rattle.extended_plan.specs.Job.{setting_of}
use Rattle.assign_table.specs.inside.Settling.{AreTriedBut, Continues, IsFront}
use Rattle.assign_table.specs.inside.Sheet.{sheet_of}
use Rattle.assign_table.proofs.settle.offer_crypts.Given as goal

abbrev pub invariant-attributes : goal.invariant-attributes
invariant-attributes l =
    Continues (setting_of l.job) l.node.0 l.room l.at l.taken.settled (sheet_of l.initial.table) (sheet_of l.table)
    × (IsWithin l.left.0 (crossable (setting_of l.job) l.node.0 l.taken.settled.state.holder)
    × (AreTriedBut (setting_of l.job) l.node.0 (sheet_of l.table).cells l.taken.settled l.left.0 × IsFront l.table l.taken.settled))

abbrev pub decreases-attributes : goal.decreases-attributes
decreases-attributes l = l.left.0
