-- The halves are those of the block after the rounds so far.
use Rattle.std.proofs.Common.{◌≡◌}
use Rattle.cipher_feistel.specs.Feistel.{after_rounds, halves_of}
use Rattle.cipher_feistel.proofs.seal.seal_into.Given as goal

abbrev pub invariant-loop-round : goal.invariant-loop-round
invariant-loop-round l = after_rounds l.key l.round (halves_of l.block) ≡ record { left = l.left; right = l.right }
