use Rattle.extended_plan.specs.Job.{setting_of}
use Rattle.assign_table.specs.inside.Blocks.{IsBestGoal}
use Rattle.assign_table.proofs.goal.best_goal.Given as goal

abbrev pub invariant-places : goal.invariant-places
invariant-places l = IsBestGoal (setting_of l.job) l.settled l.from l.at l.best
