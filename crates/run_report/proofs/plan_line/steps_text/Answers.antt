use Rattle.std.proofs.Common.{ap, ◌∙◌}
use Rattle.serde_json.specs.Written.{compact_text, has_float}
use Rattle.run_report.proofs.PlanLines.{steps_without_float}
use Rattle.run_report.proofs.plan_line.steps_text.Goals as goal

pub returns : goal.returns
returns c =
    c.in_ok-text.ensures.text (ap has_float c.in_ok-steps.ensures ∙ steps_without_float c.args.policy.now c.args.steps.now)
    ∙ ap compact_text c.in_ok-steps.ensures
