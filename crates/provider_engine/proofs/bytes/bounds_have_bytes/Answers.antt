use Rattle.std.proofs.Common.{take, sym, subst, arith}
use Rattle.std.proofs.lemmas.List.{take_all}
use Rattle.std.proofs.lemmas.List.Elements.{All-more, All-same}
use Rattle.provider_engine.specs.Typed.{HasByteBound}
use Rattle.provider_engine.proofs.bytes.bounds_have_bytes.Goals as goal

pub loop-bound-preserved : goal.loop-bound-preserved
loop-bound-preserved c =
    All-more HasByteBound c.args.bounds.now c.loop-bound.bound-index c.bound-item.result (omega arith) c.loop-bound.invariant
    (subst HasByteBound c.bound-item.is c.bound_has_bytes.ensures)

pub returns : goal.returns
returns c =
    All-same HasByteBound c.args.bounds.now (take c.loop-bound.bound-index c.args.bounds.now)
    (sym (take_all c.loop-bound.bound-index c.args.bounds.now (omega arith)))
    c.loop-bound.invariant
