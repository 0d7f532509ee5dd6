-- The bytes before the index are xored, and the others are as they were.
use Rattle.std.proofs.Common.{◌≡◌, ◌++◌, take, drop}
use Rattle.cipher_feistel.specs.Feistel.{xored}
use Rattle.cipher_feistel.proofs.round.xor_onto.Given as goal

abbrev pub invariant-loop-i : goal.invariant-loop-i
invariant-loop-i l = l.target ≡ xored (take l.i l.fn.target) l.bytes ++ drop l.i l.fn.target
