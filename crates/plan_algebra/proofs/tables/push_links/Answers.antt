use Rattle.mq_base.specs.Nodes.{joins}
use Rattle.plan_algebra.proofs.BuildingLaws.{kept-step}
use Rattle.plan_algebra.proofs.tables.push_links.Goals as goal

pub loop-cond-preserved : goal.loop-cond-preserved
loop-cond-preserved c =
    kept-step (joins c.args.schema.now c.args.earlier.now c.args.t) _ c.loop-cond.nodes c.select_if.new.nodes c.args.conds.now c.loop-cond.cond-index c.cond-item.result c.joins.result
    c.loop-cond-test.true c.cond-item.is c.joins.ensures c.in_ok-select_if.ensures c.loop-cond.invariant
