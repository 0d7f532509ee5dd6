use Rattle.std.proofs.Common.{◌≡◌, drop}
use Rattle.plan_algebra.specs.inside.Building.{over_kept}
use Rattle.plan_algebra.specs.Plan.{is_about}
use Rattle.plan_algebra.proofs.tables.push_about.Given as goal

abbrev pub invariant-loop-cond : goal.invariant-loop-cond
invariant-loop-cond l =
    over_kept (is_about l.schema l.t) l.conds l.initial.nodes ≡ over_kept (is_about l.schema l.t) (drop l.cond-index l.conds) l.nodes
