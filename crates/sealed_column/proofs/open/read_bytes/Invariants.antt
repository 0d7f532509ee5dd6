-- The bytes written so far, and then those of the digits that are left, are those of all digits.
use Rattle.std.proofs.Common.{◌≡◌, ◌++◌, take, drop}
use Rattle.sealed_column.specs.inside.Opening.{undigits}
use Rattle.sealed_column.proofs.open.read_bytes.Given as goal

abbrev pub invariant-loop-at : goal.invariant-loop-at
invariant-loop-at l = take l.at l.out ++ undigits (drop l.at l.digits) ≡ undigits l.digits
