use Rattle.std.proofs.Common.{All, take}
use Rattle.sealed_column.specs.Seal.{HasBytes}
use Rattle.plan_runner.proofs.bytes.values_have_bytes.Given as goal

abbrev pub invariant-loop-value : goal.invariant-loop-value
invariant-loop-value l = All HasBytes (take l.value-index l.values)
