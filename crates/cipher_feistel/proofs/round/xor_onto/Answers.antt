use Rattle.std.proofs.Common.{arith}
use Rattle.cipher_feistel.proofs.Xored.{xored_more, xored_none}
use Rattle.cipher_feistel.proofs.round.xor_onto.Goals as goal

pub loop-i-init : goal.loop-i-init
loop-i-init c = xored_none c.args.target.now c.args.bytes.now

pub loop-i-preserved : goal.loop-i-preserved
loop-i-preserved c =
    xored_more c.loop-i.target c.args.target.now c.args.bytes.now c.loop-i.i (omega arith) (omega arith) c.loop-i.invariant
