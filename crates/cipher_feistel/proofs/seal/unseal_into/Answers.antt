use Rattle.std.proofs.Common.{◌++◌, arith, sym, ◌∙◌, length-append}
use Rattle.cipher_feistel.specs.Feistel.{Halves}
use Rattle.cipher_feistel.proofs.Blocks.{halves_cut, sealed_cancel, sealed_from_halves}
use Rattle.cipher_feistel.proofs.Rounds.{after_rounds_last, after_rounds_none}
use Rattle.cipher_feistel.proofs.seal.unseal_into.Goals as goal

pub loop-round-init : goal.loop-round-init
loop-round-init c =
    λ h e. e ∙ sym (halves_cut c.args.cell.now c.copy_from_slice.new.self c.split_at_mut-left.result.0.now c.split_at_mut-left.result.1.now
    c.copy_from_slice.ensures.after c.split_at_mut-left.ensures.front c.split_at_mut-left.ensures.back)

pub loop-round-preserved : goal.loop-round-preserved
loop-round-preserved c =
    λ h e. c.loop-round.invariant h (after_rounds_last c.args.key.now c.loop-round.round h _ _ (omega arith) e c.turn_back.ensures)

pub returns-clause-opened : goal.returns-clause-opened
returns-clause-opened c =
    let block : Halves = record { left = c.loop-round.left; right = c.loop-round.right } in
    sealed_from_halves c.args.key.now c.args.cell.now c.loop-round.left c.loop-round.right (omega arith)
    (c.loop-round.invariant block (after_rounds_none c.args.key.now c.loop-round.round block (omega arith)))

pub returns-clause-undone : goal.returns-clause-undone
returns-clause-undone c =
    let whole = length-append c.loop-round.left c.loop-round.right in
    λ block same e. sealed_cancel c.args.key.now (c.loop-round.left ++ c.loop-round.right) block
    (omega arith) (omega arith) (omega arith) (e ∙ sym (returns-clause-opened c))
