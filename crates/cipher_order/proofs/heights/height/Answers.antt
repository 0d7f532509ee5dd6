use Rattle.std.proofs.Common.{◌≡◌, ◌+◌, ◌∙◌, refl, arith}
use Rattle.cipher_order.proofs.Rising.{at_hand_more, gap_limit, risen_height, risen_limit, risen_more, risen_none}
use Rattle.cipher_order.proofs.heights.height.Goals as goal

pub loop-i-init : goal.loop-i-init
loop-i-init c = record { sum = risen_none _ _; at_hand = λ other. absurd (other refl) }

pub overflow_add-sum : goal.overflow_add-sum
overflow_add-sum c =
    let key = c.args.key.now in
    let earlier = c.args.earlier.now in
    omega (arith, risen_limit key earlier c.loop-i.i, gap_limit key earlier c.loop-i.i)

pub loop-i-preserved : goal.loop-i-preserved
loop-i-preserved c = record {
  sum = omega (arith, risen_more c.args.key.now c.args.earlier.now c.loop-i.i);
  at_hand = at_hand_more _ _ _ _ c.next_gap-sum.ensures.kept;
}

pub returns : goal.returns
returns c =
    let key = c.args.key.now in
    let earlier = c.args.earlier.now in
    let end : c.loop-i.i ≡ c.args.digit + 1 = omega arith in
    c.loop-i.invariant.sum ∙ rw end (risen_height key earlier c.args.digit)
