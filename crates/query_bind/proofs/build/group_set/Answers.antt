use Rattle.std.proofs.Common.{ap}
use Rattle.mq_base.specs.declared.ids.AttrId.{AttrId}
use Rattle.query_bind.proofs.BuildLaws.{group-step}
use Rattle.query_bind.proofs.build.group_set.Goals as goal

pub loop-column-preserved : goal.loop-column-preserved
loop-column-preserved c =
    group-step c.args.schema.now _ c.loop-column.set.0 c.attribute_of.result.0 c.with-set.result.0 c.args.group.now c.loop-column.column-index _
    c.loop-column-test.true (ap (λ (a : AttrId). a.0) c.attribute_of.ensures.named) c.with-set.ensures c.loop-column.invariant
