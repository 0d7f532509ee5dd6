-- Whatever becomes the halves by the rounds that are left becomes those of the cell by all rounds.
use Rattle.std.proofs.Common.{◌≡◌}
use Rattle.cipher_feistel.specs.Feistel.{Halves, after_rounds, halves_of}
use Rattle.cipher_feistel.proofs.seal.unseal_into.Given as goal

abbrev pub invariant-loop-round : goal.invariant-loop-round
invariant-loop-round l = (h : Halves) → after_rounds l.key l.round h ≡ record { left = l.left; right = l.right }
    → after_rounds l.key 8 h ≡ halves_of l.cell
