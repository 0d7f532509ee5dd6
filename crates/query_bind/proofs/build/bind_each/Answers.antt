use Rattle.std.proofs.Common.{arith}
use Rattle.std.proofs.lemmas.List.Elements.{All-more}
use Rattle.query_bind.proofs.BuildLaws.{bound-more}
use Rattle.query_bind.proofs.build.bind_each.Goals as goal

pub loop-part-preserved : goal.loop-part-preserved
loop-part-preserved g c = record {
  bound = bound-more (g.T.Bind.bound c.args.schema.now) c.args.out.now c.loop-part.out _ c.args.parts.now c.loop-part.part-index c.part-item.result
      (omega arith) c.loop-part.invariant.bound (rw (← c.part-item.is) c.in_ok-bind.ensures.bound);
  fits = All-more g.T.Bind.fits c.args.parts.now c.loop-part.part-index c.part-item.result (omega arith) c.loop-part.invariant.fits
      (rw (← c.part-item.is) c.in_ok-bind.ensures.fits);
}
