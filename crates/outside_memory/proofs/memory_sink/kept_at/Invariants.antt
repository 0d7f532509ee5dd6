-- No pair so far has the number, so what is left decides.
use Rattle.std.proofs.Common.{◌≡◌, drop}
use Rattle.outside_memory.specs.Scripts.{kept_of}
use Rattle.outside_memory.proofs.memory_sink.kept_at.Given as goal

abbrev pub invariant-loop-number : goal.invariant-loop-number
invariant-loop-number l = kept_of l.failing l.call ≡ kept_of (drop l.number-index l.failing) l.call
