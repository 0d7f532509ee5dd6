use Rattle.planner_cli.proofs.Settings.{one_status}
use Rattle.planner_cli.proofs.ends.one_status.Goals as goal

pub returns : goal.returns
returns c = one_status
