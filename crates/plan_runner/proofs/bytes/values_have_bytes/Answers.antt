use Rattle.std.proofs.Common.{take, sym, subst, arith}
use Rattle.std.proofs.lemmas.List.{take_all}
use Rattle.std.proofs.lemmas.List.Elements.{All-more, All-same}
use Rattle.sealed_column.specs.Seal.{HasBytes}
use Rattle.plan_runner.proofs.bytes.values_have_bytes.Goals as goal

pub loop-value-preserved : goal.loop-value-preserved
loop-value-preserved c =
    All-more HasBytes c.args.values.now c.loop-value.value-index c.value-item.result (omega arith) c.loop-value.invariant
    (subst HasBytes c.value-item.is c.value_has_bytes.ensures)

pub returns : goal.returns
returns c =
    All-same HasBytes c.args.values.now (take c.loop-value.value-index c.args.values.now)
    (sym (take_all c.loop-value.value-index c.args.values.now (omega arith)))
    c.loop-value.invariant
