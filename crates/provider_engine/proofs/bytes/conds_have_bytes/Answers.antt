use Rattle.std.proofs.Common.{take, sym, subst, arith}
use Rattle.std.proofs.lemmas.List.{take_all}
use Rattle.std.proofs.lemmas.List.Elements.{All-more, All-same}
use Rattle.provider_engine.specs.Typed.{HasByteConstant}
use Rattle.provider_engine.proofs.bytes.conds_have_bytes.Goals as goal

pub loop-cond-preserved : goal.loop-cond-preserved
loop-cond-preserved c =
    All-more HasByteConstant c.args.conds.now c.loop-cond.cond-index c.cond-item.result (omega arith) c.loop-cond.invariant
    (subst HasByteConstant c.cond-item.is c.cond_has_bytes.ensures)

pub returns : goal.returns
returns c =
    All-same HasByteConstant c.args.conds.now (take c.loop-cond.cond-index c.args.conds.now)
    (sym (take_all c.loop-cond.cond-index c.args.conds.now (omega arith)))
    c.loop-cond.invariant
