use Rattle.std.proofs.Common.{◌≡◌, ◌*◌, take}
use Rattle.cipher_order.specs.Order.{sealed}
use Rattle.cipher_order.proofs.seal.seal_into.Given as goal

-- the digits so far are the earlier ones, and their cell is written
abbrev pub invariant-loop-at : goal.invariant-loop-at
invariant-loop-at l = record {
  earlier : l.earlier ≡ take l.at l.digits;
  written : take (2 * l.at) l.out ≡ sealed l.key (take l.at l.digits);
}
