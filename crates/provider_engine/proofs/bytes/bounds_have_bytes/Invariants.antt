use Rattle.std.proofs.Common.{All, take}
use Rattle.provider_engine.specs.Typed.{HasByteBound}
use Rattle.provider_engine.proofs.bytes.bounds_have_bytes.Given as goal

abbrev pub invariant-loop-bound : goal.invariant-loop-bound
invariant-loop-bound l = All HasByteBound (take l.bound-index l.bounds)
