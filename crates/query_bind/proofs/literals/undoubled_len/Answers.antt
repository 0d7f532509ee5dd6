use Rattle.std.proofs.Common.{arith}
use Rattle.query_bind.proofs.LiteralLaws.{counted-more}
use Rattle.query_bind.proofs.literals.undoubled_len.Goals as goal

pub loop-at-preserved : goal.loop-at-preserved
loop-at-preserved c = record {
  within = omega (arith, c.step_at-at.ensures.few);
  few = omega (arith, c.step_at-at.ensures.some);
  counted = counted-more c.args.inside.now c.loop-at.at c.loop-at.count c.step_at-at.result c.loop-at-test.true c.step_at-at.ensures.step c.loop-at.invariant.counted;
}
