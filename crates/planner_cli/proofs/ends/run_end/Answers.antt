use Rattle.planner_cli.proofs.Ending.{job_ends}
use Rattle.planner_cli.proofs.ends.run_end.Goals as goal

pub returns : goal.returns
returns c = job_ends c.args.task c.in_ok-job.job c.job_end.result c.in_ok-job.ensures.given c.job_end.ensures
