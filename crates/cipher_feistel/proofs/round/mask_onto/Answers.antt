use Rattle.std.proofs.Common.{arith}
use Rattle.cipher_feistel.proofs.Masks.{one_hash, two_hashes}
use Rattle.cipher_feistel.proofs.round.mask_onto.Goals as goal

pub returns-then-left-le-DIGEST_LEN : goal.returns-then-left-le-DIGEST_LEN
returns-then-left-le-DIGEST_LEN c =
    let whole = one_hash c.args.key.now c.args.round c.args.right.now c.args.left.now c.requires.same_length (omega arith) in
    cc

pub returns-else-left-le-DIGEST_LEN : goal.returns-else-left-le-DIGEST_LEN
returns-else-left-le-DIGEST_LEN c =
    let whole = two_hashes c.args.key.now c.args.round c.args.right.now c.args.left.now
    c.split_at_mut-front.result.0.now c.split_at_mut-front.result.1.now c.split_at_mut-front.ensures.value
    c.requires.same_length c.split_at_mut-front.ensures.front_len in
    cc
