use Rattle.std.proofs.Common.{◌∙◌}
use Rattle.planner_cli.proofs.Telling.{ends_silent}
use Rattle.planner_cli.proofs.perform.finish.Goals as goal

pub returns-clause-silent : goal.returns-clause-silent
returns-clause-silent g c = λ silent.
    c.write_text.ensures.none (c.as_slice.ensures.value
    ∙ ends_silent c.args.task c.in_ok-end.end.status c.in_ok-end.end.text.items c.in_ok-end.ensures silent)
