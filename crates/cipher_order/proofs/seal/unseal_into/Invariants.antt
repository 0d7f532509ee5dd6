use Rattle.std.proofs.Common.{◌≡◌, ◌*◌, length, take}
use Rattle.cipher_order.specs.Order.{IsDigits, sealed}
use Rattle.cipher_order.proofs.seal.unseal_into.Given as goal

-- as many digits are found as there were turns, and the front of the cell is theirs
abbrev pub invariant-loop-at : goal.invariant-loop-at
invariant-loop-at l = record {
  count : length l.found ≡ l.at;
  digits : IsDigits l.found;
  front : sealed l.key l.found ≡ take (2 * l.at) l.cell;
}
