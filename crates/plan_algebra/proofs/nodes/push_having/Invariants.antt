use Rattle.std.proofs.Common.{◌≡◌, drop, map}
use Rattle.plan_algebra.specs.inside.Building.{over_all}
use Rattle.plan_algebra.specs.Plan.{kept_by}
use Rattle.plan_algebra.proofs.nodes.push_having.Given as goal

abbrev pub invariant-loop-condition : goal.invariant-loop-condition
invariant-loop-condition l =
    over_all (map kept_by l.having) l.initial.nodes ≡ over_all (map kept_by (drop l.condition-index l.having)) l.nodes
