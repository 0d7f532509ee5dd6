use Rattle.std.proofs.Common.{◌≡◌, ◌+◌, ◌*◌, sym, ◌∙◌, arith}
use Rattle.std.proofs.lemmas.Grind.{common_steps}
use Rattle.std.proofs.lemmas.List.{take_more}
use Rattle.cipher_order.specs.Order.{sealed}
use Rattle.cipher_order.proofs.Order.{sealed_distinct, sealed_none, sealed_ordered, sealed_push}
use Rattle.cipher_order.proofs.seal.seal_into.Goals as goal

pub loop-at-init : goal.loop-at-init
loop-at-init c = record { earlier = c.new-earlier.ensures; written = sym (sealed_none c.args.key.now) }

pub loop-at-preserved : goal.loop-at-preserved
loop-at-preserved c =
    let digits = c.args.digits.now in
    let at = c.loop-at.at in
    let grown = take_more digits at 0 (omega arith) in
    let twice : 2 * (at + 1) ≡ 2 * at + 2 = omega arith in
    record {
      earlier = rw grown (cc);
      written = rw (twice, grown, sealed_push) (cc);
    }

pub returns-clause-ordered : goal.returns-clause-ordered
returns-clause-ordered c =
    let whole : c.loop-at.out ≡ sealed c.args.key.now c.args.digits.now = grind (arith, common_steps) in
    λ other same other_ok. rw whole (sealed_ordered c.args.key.now other c.args.digits.now same other_ok c.requires.digits)

pub returns-clause-distinct : goal.returns-clause-distinct
returns-clause-distinct c =
    let whole : c.loop-at.out ≡ sealed c.args.key.now c.args.digits.now = grind (arith, common_steps) in
    λ other same other_ok cells. sealed_distinct c.args.key.now other c.args.digits.now same other_ok c.requires.digits (cells ∙ whole)
