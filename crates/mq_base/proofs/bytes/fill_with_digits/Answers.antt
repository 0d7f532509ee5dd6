use Rattle.std.proofs.Common.{◌+◌, ◌∙◌, ap, arith, length, set}
use Rattle.mq_base.proofs.BlockLaws.{digits_more, digits_small}
use Rattle.mq_base.proofs.bytes.fill_with_digits.Goals as goal

pub loop-i-preserved : goal.loop-i-preserved
loop-i-preserved c =
    ap (λ out. set out c.loop-i.i (c.from.result + 1)) c.loop-i.invariant
    ∙ digits_more (length c.fill.new.self) c.args.bytes.now c.loop-i.i c.from.result c.loop-i-test.true (omega arith) c.from.ensures

pub returns-clause-small : goal.returns-clause-small
returns-clause-small c = digits_small c.args.bytes.now (λ k. omega (arith, c.type_inv.bytes k))
