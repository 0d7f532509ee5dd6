use Rattle.plan_algebra.specs.Plan.{is_about}
use Rattle.plan_algebra.proofs.BuildingLaws.{kept-step}
use Rattle.plan_algebra.proofs.tables.push_about.Goals as goal

pub loop-cond-preserved : goal.loop-cond-preserved
loop-cond-preserved c =
    kept-step (is_about c.args.schema.now c.args.t) _ c.loop-cond.nodes c.select_if.new.nodes c.args.conds.now c.loop-cond.cond-index c.cond-item.result c.is_about.result
    c.loop-cond-test.true c.cond-item.is c.is_about.ensures c.in_ok-select_if.ensures c.loop-cond.invariant
