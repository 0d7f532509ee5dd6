use Rattle.std.proofs.Common.{All, take}
use Rattle.provider_engine.specs.Typed.{HasByteConstant}
use Rattle.provider_engine.proofs.bytes.conds_have_bytes.Given as goal

abbrev pub invariant-loop-cond : goal.invariant-loop-cond
invariant-loop-cond l = All HasByteConstant (take l.cond-index l.conds)
