use Rattle.std.proofs.Common.{arith, ◌∙◌}
use Rattle.cipher_feistel.specs.Feistel.{halves_of}
use Rattle.cipher_feistel.proofs.Blocks.{halves_cut, sealed_cancel, sealed_from_rounds}
use Rattle.cipher_feistel.proofs.Rounds.{after_rounds_more, after_rounds_none}
use Rattle.cipher_feistel.proofs.seal.seal_into.Goals as goal

pub loop-round-init : goal.loop-round-init
loop-round-init c =
    after_rounds_none c.args.key.now 0 (halves_of c.args.block.now) (omega arith)
    ∙ halves_cut c.args.block.now c.copy_from_slice.new.self c.split_at_mut-left.result.0.now c.split_at_mut-left.result.1.now
    c.copy_from_slice.ensures.after c.split_at_mut-left.ensures.front c.split_at_mut-left.ensures.back

pub loop-round-preserved : goal.loop-round-preserved
loop-round-preserved c =
    after_rounds_more c.args.key.now c.loop-round.round (halves_of c.args.block.now) _ _ c.loop-round.invariant c.turn.ensures

pub returns-clause-sealed : goal.returns-clause-sealed
returns-clause-sealed c =
    sealed_from_rounds c.args.key.now c.args.block.now c.loop-round.left c.loop-round.right c.loop-round.round (omega arith) c.loop-round.invariant

pub returns-clause-bijective : goal.returns-clause-bijective
returns-clause-bijective c =
    λ other same e. sealed_cancel c.args.key.now c.args.block.now other c.requires.even (omega arith) same (e ∙ returns-clause-sealed c)
