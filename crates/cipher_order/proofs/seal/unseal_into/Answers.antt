use Rattle.std.proofs.Common.{◌≡◌, ◌≤◌, ◌+◌, ◌*◌, length, ap, sym, ◌∙◌, arith}
use Rattle.std.proofs.lemmas.Grind.{common_steps}
use Rattle.std.proofs.lemmas.List.{length_push}
use Rattle.std.proofs.lemmas.List.Elements.{All-push}
use Rattle.cipher_order.specs.Order.{sealed}
use Rattle.cipher_order.proofs.Order.{not_sealed, sealed_distinct, sealed_none, sealed_push}
use Rattle.cipher_order.proofs.seal.unseal_into.Goals as goal

pub loop-at-init : goal.loop-at-init
loop-at-init c =
    let none = ap length c.new-found.ensures in
    record {
      count = none;
      digits = λ k d within. absurd (omega arith);
      front = ap (sealed c.args.key.now) c.new-found.ensures ∙ sealed_none c.args.key.now;
    }

pub loop-at-preserved : goal.loop-at-preserved
loop-at-preserved c =
    let at = c.loop-at.at in
    let twice : 2 * (at + 1) ≡ 2 * at + 2 = omega arith in
    record {
      count = omega (arith, ap length c.push.ensures, length_push c.loop-at.found c.in-Some.digit);
      digits = rw c.push.ensures (All-push (λ d. d ≤ 256) _ _ c.loop-at.invariant.digits c.in-Some.ensures.digit);
      front = rw (twice, c.push.ensures, sealed_push) (cc (c.in-Some.ensures.found));
    }

pub returns-in_default-clause-refused : goal.returns-in_default-clause-refused
returns-in_default-clause-refused c =
    λ other same other_ok cell. not_sealed c.args.key.now c.args.cell.now c.loop-at.found other c.loop-at.at c.read_number.result c.loop-at.invariant.count (omega arith) other_ok c.loop-at.invariant.digits (omega arith) c.loop-at.invariant.front c.read_number.ensures c.in_default.ensures.none cell

pub returns-clause-only : goal.returns-clause-only
returns-clause-only c =
    let whole : sealed c.args.key.now c.loop-at.found ≡ c.args.cell.now = grind (arith, common_steps) in
    let given = c.copy_from_slice.ensures.after ∙ c.digits.ensures in
    λ other same other_ok cell. rw given (sealed_distinct c.args.key.now other c.loop-at.found (omega arith) other_ok c.loop-at.invariant.digits (cell ∙ sym whole))
