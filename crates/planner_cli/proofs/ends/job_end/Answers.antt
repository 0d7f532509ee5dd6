use Rattle.std.proofs.Common.{Err, ap}
use Rattle.planner_cli.specs.Ends.{crowded}
use Rattle.planner_cli.proofs.ends.job_end.Goals as goal

pub returns-in-Err-TooManyStates : goal.returns-in-Err-TooManyStates
returns-in-Err-TooManyStates c =
    crowded c.in-Err-TooManyStates.node
    (c.in-Err-TooManyStates.ensures.too_many c.in-Err-TooManyStates.node (ap (λ e. Err e) c.in-Err-TooManyStates.field-0-is))
    (rw c.in-Err-TooManyStates.field-0-is at c.silent.ensures.status) c.silent.ensures.text
