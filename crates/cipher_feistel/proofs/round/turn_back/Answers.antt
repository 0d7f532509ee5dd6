use Rattle.std.proofs.Common.{arith}
use Rattle.cipher_feistel.proofs.Rounds.{turned_back}
use Rattle.cipher_feistel.proofs.round.turn_back.Goals as goal

pub returns : goal.returns
returns c =
    let back = turned_back c.args.key.now c.args.round c.args.left.now c.args.right.now c.requires.same_length (omega arith) in
    cc
