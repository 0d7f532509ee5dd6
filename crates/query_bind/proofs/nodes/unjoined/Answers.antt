use Rattle.std.proofs.Common.{arith}
use Rattle.query_bind.proofs.NodeLaws.{unjoined-step}
use Rattle.query_bind.proofs.nodes.unjoined.Goals as goal

pub loop-at-preserved : goal.loop-at-preserved
loop-at-preserved c = record {
  few = omega (arith, c.one_unless_joined-count.ensures.small);
  left = unjoined-step c.args.schema.now c.args.conds.now c.args.tables.now c.loop-at.at _ _ c.loop-at.count c.one_unless_joined-count.result
      c.loop-at-test.true c.one_unless_joined-count.ensures.one c.loop-at.invariant.left;
}
