use Rattle.std.proofs.Common.{replicate}
use Rattle.key_clusters.specs.Keys.{key_at}
use Rattle.base_laws.proofs.FillLaws.{filled-end, filled-more}
use Rattle.key_clusters.proofs.keys.Keys.of.Goals as goal

pub loop-a-preserved : goal.loop-a-preserved
loop-a-preserved c =
    filled-more (key_at c.args.seed.now c.args.clusters.now) (replicate 32 0) c.key_at.result c.loop-a.keys c.loop-a.a c.from.result c.loop-a-test.true
    c.loop-a.invariant c.from.ensures c.key_at.ensures

pub returns : goal.returns
returns c =
    filled-end (key_at c.args.seed.now c.args.clusters.now) (replicate 32 0) c.loop-a.keys c.loop-a.a c.loop-a-test.false c.loop-a.auto.a-end
    c.loop-a.invariant
