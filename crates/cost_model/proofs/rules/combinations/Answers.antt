use Rattle.std.proofs.Common.{sym, ◌∙◌, ap, arith}
use Rattle.base_laws.specs.Sets.{without}
use Rattle.base_laws.proofs.MemberLaws.{without-lt}
use Rattle.cost_model.proofs.CutLaws.{combinations-end, combinations-more, combinations-start}
use Rattle.cost_model.proofs.rules.combinations.Goals as goal

pub loop-a-init : goal.loop-a-init
loop-a-init c = record { left = combinations-start c.args.prices.now c.args.by.0; fits = omega arith }

pub of-requires : goal.of-requires
of-requires c = c.in-Some.ensures.small

pub loop-a-smaller : goal.loop-a-smaller
loop-a-smaller c =
    rw (c.difference-left.ensures, c.of.ensures) (without-lt c.loop-a.left.0 c.in-Some.a.0 c.in-Some.ensures.found.member)

pub loop-a-preserved : goal.loop-a-preserved
loop-a-preserved c = record {
  left = c.loop-a.invariant.left
      ∙ combinations-more c.args.prices.now c.loop-a.product _ c.loop-a.left.0 _ c.in-Some.a.0 c.in-Some.ensures.small c.in-Some.ensures.found
      (c.difference-left.ensures ∙ ap (without c.loop-a.left.0) c.of.ensures) (rw c.distinct_of.ensures at c.saturating_mul-product.ensures);
  fits = omega (arith, c.saturating_mul-product.ensures);
}

pub returns : goal.returns
returns c =
    sym (c.loop-a.invariant.left ∙ combinations-end c.args.prices.now c.loop-a.product c.loop-a.left.0 c.loop-a.invariant.fits c.in_default.ensures.found)
