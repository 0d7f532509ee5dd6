use Rattle.std.proofs.Common.{◌≡◌, ◌+◌, sym, arith}
use Rattle.std.proofs.Math.Path.{subst}
use Rattle.extended_plan.specs.Job.{setting_of}
use Rattle.assign_table.specs.inside.Blocks.{IsBestGoal}
use Rattle.assign_table.proofs.GoalLaws.{best_inside, best_more, best_none}
use Rattle.assign_table.proofs.goal.best_goal.Goals as goal

pub places-init : goal.places-init
places-init c = best_none (setting_of c.args.job.now) c.args.settled.now c.args.from

pub better-best-requires-clause-best : goal.better-best-requires-clause-best
better-best-requires-clause-best c =
    best_inside (setting_of c.args.job.now) c.args.settled.now c.args.from c.places.at c.places.best (omega arith) c.places.invariant

pub places-preserved : goal.places-preserved
places-preserved c =
    subst (IsBestGoal (setting_of c.args.job.now) c.args.settled.now c.args.from (c.places.at + 1)) (sym c.better-best.ensures)
    (best_more (setting_of c.args.job.now) c.args.settled.now c.args.from c.places.at c.places.best (omega arith) c.places.invariant)

pub returns : goal.returns
returns c =
    let end : c.places.at ≡ c.args.to = omega arith in
    subst (λ i. IsBestGoal (setting_of c.args.job.now) c.args.settled.now c.args.from i c.places.best) end c.places.invariant
