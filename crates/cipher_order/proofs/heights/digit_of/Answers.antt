use Rattle.std.proofs.Common.{◌<◌, refl, arith, below_more}
use Rattle.cipher_order.specs.Order.{height}
use Rattle.cipher_order.proofs.Rising.{at_hand_more, gap_limit, height_is, none_as_high, risen_limit, risen_more, risen_none}
use Rattle.cipher_order.proofs.heights.digit_of.Goals as goal

pub loop-digit-init : goal.loop-digit-init
loop-digit-init c = record { sum = risen_none _ _; at_hand = λ other. absurd (other refl); lower = λ d none. absurd (omega arith) }

pub overflow_add-sum : goal.overflow_add-sum
overflow_add-sum c =
    let key = c.args.key.now in
    let earlier = c.args.earlier.now in
    omega (arith, risen_limit key earlier c.loop-digit.digit, gap_limit key earlier c.loop-digit.digit)

pub returns-then-sum-wanted-clause-found : goal.returns-then-sum-wanted-clause-found
returns-then-sum-wanted-clause-found c =
    omega (arith, height_is c.args.key.now c.args.earlier.now c.loop-digit.digit)

pub returns-then-sum-wanted-2-clause-none : goal.returns-then-sum-wanted-2-clause-none
returns-then-sum-wanted-2-clause-none c =
    let key = c.args.key.now in
    let earlier = c.args.earlier.now in
    λ d _. none_as_high key earlier c.loop-digit.digit c.args.wanted c.loop-digit.invariant.lower (omega (arith, height_is key earlier c.loop-digit.digit)) d

pub loop-digit-preserved : goal.loop-digit-preserved
loop-digit-preserved c =
    let key = c.args.key.now in
    let earlier = c.args.earlier.now in
    let here : height key earlier c.loop-digit.digit < c.args.wanted = omega (arith, height_is key earlier c.loop-digit.digit) in
    record {
      sum = omega (arith, risen_more key earlier c.loop-digit.digit);
      at_hand = at_hand_more _ _ _ _ c.next_gap-sum.ensures.kept;
      lower = below_more _ _ c.loop-digit.invariant.lower here;
    }
