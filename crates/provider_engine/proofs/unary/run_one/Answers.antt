use Rattle.std.proofs.Common.{◌∙◌}
use Rattle.extended_plan.specs.Job.{setting_of}
use Rattle.extended_plan.specs.Setting.{known_at, op_at}
use Rattle.provider_engine.specs.Held.{node_of}
use Rattle.provider_engine.proofs.HeldLaws.{one_at}
use Rattle.provider_engine.proofs.OneLaws.{is_selection}
use Rattle.provider_engine.proofs.unary.run_one.Goals as goal

pub run_select-requires-clause-selection : goal.run_select-requires-clause-selection
run_select-requires-clause-selection c =
    let at = one_at (setting_of c.args.job.now) c.args.node (node_of c.args.input) c.args.job.now.ready c.requires.runnable.from in
    is_selection (setting_of c.args.job.now).policy.schema (op_at (setting_of c.args.job.now) c.args.node.0)
    (known_at (setting_of c.args.job.now) (node_of c.args.input).0) at.stands
    (c.requires.typed.typed c.args.node.0 c.requires.runnable.from.node) (λ kept e. c.in_default.not-Project kept (c.operation.ensures ∙ e))
    (λ by aggs count e. c.in_default.not-Group by aggs count (c.operation.ensures ∙ e))
