use Rattle.std.proofs.Common.{sym, ◌∙◌, ap}
use Rattle.base_laws.specs.Sets.{without}
use Rattle.base_laws.proofs.MemberLaws.{without-lt}
use Rattle.relation_profile.proofs.WalkLaws.{walk-end, walk-fail, walk-more, walk-start}
use Rattle.relation_profile.proofs.runnable.all_comparable.Goals as goal

pub loop-a-init : goal.loop-a-init
loop-a-init c = walk-start c.args.schemes.now c.args.cmp c.args.set.0 c.args.seen _ c.difference-left.ensures

pub is_comparable-requires : goal.is_comparable-requires
is_comparable-requires c = c.in-Some.ensures.small

pub returns-then-not-is_comparable : goal.returns-then-not-is_comparable
returns-then-not-is_comparable c =
    sym (c.loop-a.invariant
    ∙ walk-fail c.args.schemes.now c.args.cmp c.args.seen c.loop-a.left.0 c.in-Some.a.0 c.in-Some.ensures.found.member c.in-Some.ensures.small
    (sym c.is_comparable.ensures ∙ c.if-not-is_comparable.true))

pub of-requires : goal.of-requires
of-requires c = c.in-Some.ensures.small

pub loop-a-smaller : goal.loop-a-smaller
loop-a-smaller c =
    rw (c.difference-left-in-Some.ensures, c.of.ensures) (without-lt c.loop-a.left.0 c.in-Some.a.0 c.in-Some.ensures.found.member)

pub loop-a-preserved : goal.loop-a-preserved
loop-a-preserved c =
    c.loop-a.invariant
    ∙ walk-more c.args.schemes.now c.args.cmp c.args.seen c.loop-a.left.0 c.in-Some.a.0 _ (sym c.is_comparable.ensures ∙ c.if-not-is_comparable.false)
    (c.difference-left-in-Some.ensures ∙ ap (without c.loop-a.left.0) c.of.ensures)

pub returns : goal.returns
returns c = sym (c.loop-a.invariant ∙ walk-end c.args.schemes.now c.args.cmp c.args.seen c.loop-a.left.0 c.in_default.ensures.found)
