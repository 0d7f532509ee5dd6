use Rattle.std.proofs.Common.{[], append_assoc}
use Rattle.cipher_order.specs.Order.{gap_block}
use Rattle.cipher_order.proofs.heights.gap_block.Goals as goal

pub returns : goal.returns
unfolding gap_block
returns c =
    let fed = c.update-3.ensures _ (c.update-2.ensures _ (c.update.ensures [] c.new-hasher.ensures)) in
    simp (append_assoc, c.len-position.ensures.value, c.spelling.ensures) at (c.finalize.ensures _ fed)
