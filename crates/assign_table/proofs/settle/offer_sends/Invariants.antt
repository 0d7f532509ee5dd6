use Rattle.std.proofs.Common.{◌≡◌, ◌<◌}
use Rattle.std.specs.Prelude.{IfSome}
use Rattle.mq_base.specs.declared.ids.SubjectId.{SubjectId}
use Rattle.cost_model.specs.Costs as costs
use Rattle.extended_plan.specs.Gains.{send_gain}
use Rattle.extended_plan.specs.Job.{setting_of}
use Rattle.assign_table.specs.inside.Settling.{Continues, IsGainListed}
use Rattle.assign_table.specs.inside.Sheet.{sheet_of}
use Rattle.assign_table.proofs.settle.offer_sends.Given as goal

abbrev pub invariant-subjects : goal.invariant-subjects
invariant-subjects l =
    Continues (setting_of l.job) l.node.0 l.room l.at l.from (sheet_of l.initial.table) (sheet_of l.table)
    × (((to : SubjectId) → to.0 < l.to → IfSome (send_gain (setting_of l.job) l.node.0 to l.from.state) (IsGainListed (sheet_of l.table).cells l.from.label))
    × IfSome l.load (λ bytes. bytes ≡ costs.load (setting_of l.job).basis l.node.0 l.from.state.view))
