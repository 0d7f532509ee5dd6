use Rattle.std.proofs.Common.{◌≡◌, ◌≢◌, ℕ, ◌/◌, ◌%◌, ◌<◌}
use Rattle.cipher_order.specs.Order.{gap_block, height}
use Rattle.cipher_order.proofs.Rising.{risen}
use Rattle.cipher_order.proofs.heights.digit_of.Given as goal

-- the sum so far, the block that the next gap comes from, unless it begins one, and that each digit
-- so far is lower than what is wanted
abbrev pub invariant-loop-digit : goal.invariant-loop-digit
invariant-loop-digit l = record {
  sum : l.sum ≡ risen l.key l.earlier l.digit;
  at_hand : l.digit % 32 ≢ 0 → l.block ≡ gap_block l.key l.earlier (l.digit / 32);
  lower : (d : ℕ) → d < l.digit → height l.key l.earlier d < l.wanted;
}
