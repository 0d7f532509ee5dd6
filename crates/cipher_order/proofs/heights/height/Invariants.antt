use Rattle.std.proofs.Common.{◌≡◌, ◌≢◌, ◌/◌, ◌%◌}
use Rattle.cipher_order.specs.Order.{gap_block}
use Rattle.cipher_order.proofs.Rising.{risen}
use Rattle.cipher_order.proofs.heights.height.Given as goal

-- the sum so far, and the block that the next gap comes from, unless it begins one
abbrev pub invariant-loop-i : goal.invariant-loop-i
invariant-loop-i l = record {
  sum : l.sum ≡ risen l.key l.earlier l.i;
  at_hand : l.i % 32 ≢ 0 → l.block ≡ gap_block l.key l.earlier (l.i / 32);
}
