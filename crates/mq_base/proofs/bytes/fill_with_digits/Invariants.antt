use Rattle.std.proofs.Common.{◌≡◌, length, take}
use Rattle.mq_base.specs.Bytes.{digits, filled}
use Rattle.mq_base.proofs.bytes.fill_with_digits.Given as goal

-- the digits so far, and zeros
abbrev pub invariant-loop-i : goal.invariant-loop-i
invariant-loop-i l = l.out ≡ filled (length l.initial.out) (digits (take l.i l.bytes))
