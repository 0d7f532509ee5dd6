use Rattle.std.proofs.Common.{Err, ap, sym, ◌∙◌}
use Rattle.std.proofs.lemmas.Result.{err_from_is_err_and}
use Rattle.base_laws.specs.Sets.{without}
use Rattle.base_laws.proofs.MemberLaws.{without-lt}
use Rattle.extended_plan.specs.Job.{setting_of}
use Rattle.assign_table.specs.declared.table.TableNo.{TableNo}
use Rattle.assign_table.specs.inside.Sheet.{sheet_of}
use Rattle.assign_table.proofs.GainLaws.{attributes-all, attributes-more, attributes-within}
use Rattle.assign_table.proofs.NearLaws.{attributes-first}
use Rattle.assign_table.proofs.SettleLaws.{continues-none, continues-then, crowd-later}
use Rattle.assign_table.proofs.settle.offer_crypts.Goals as goal

pub attributes-init : goal.attributes-init
attributes-init c =
    let less = c.difference-left.ensures in (
      continues-none (setting_of c.args.job.now) c.args.node.0 c.args.room c.args.at c.args.taken.now.settled (sheet_of c.args.table.now),
      (
        attributes-within _ _ _ c.args.taken.now.near.0 less c.tried.ensures.within,
        (
          attributes-first (setting_of c.args.job.now) c.args.node.0 (sheet_of c.args.table.now).cells c.args.taken.now.settled c.tried.result.0
              c.args.taken.now.near.0 _ c.requires.front.fits c.tried.ensures.each less c.requires.near,
          c.requires.front,
        ),
      ),
    )

pub returns-in_err-offer_across-clause-full : goal.returns-in_err-offer_across-clause-full
returns-in_err-offer_across-clause-full c = λ full.
    let p = err_from_is_err_and c.from_residual.result c.from_residual.ensures.1 in
    crowd-later (setting_of c.args.job.now) c.args.node.0 c.args.room c.args.at c.args.taken.now.settled (sheet_of c.args.table.now)
    (sheet_of c.attributes.table) c.attributes.invariant.0
    (c.in_err-offer_across.ensures.full (ap (λ (e : TableNo). Err e) (sym p.2) ∙ sym p.1 ∙ full))

pub offer_across-requires-clause-crosses : goal.offer_across-requires-clause-crosses
offer_across-requires-clause-crosses c = c.attributes.invariant.1.0.member c.in-Some.a.0 c.in-Some.ensures.found.member

pub attributes-smaller : goal.attributes-smaller
attributes-smaller c =
    rw (c.difference-left-in-Some.ensures, c.of.ensures) (without-lt c.attributes.left.0 c.in-Some.a.0 c.in-Some.ensures.found.member)

pub attributes-preserved : goal.attributes-preserved
attributes-preserved c =
    let less = c.difference-left-in-Some.ensures ∙ ap (without c.attributes.left.0) c.of.ensures in (
      continues-then (setting_of c.args.job.now) c.args.node.0 c.args.room c.args.at c.args.taken.now.settled (sheet_of c.args.table.now)
          (sheet_of c.attributes.table) (sheet_of c.offer_across.new.table) c.attributes.invariant.0 c.in_ok-offer_across.ensures.continues,
      (
        attributes-within c.attributes.left.0 _ _ _ less c.attributes.invariant.1.0,
        (
          attributes-more (setting_of c.args.job.now) c.args.node.0 c.args.room c.args.at c.args.taken.now.settled (sheet_of c.attributes.table)
              (sheet_of c.offer_across.new.table) c.attributes.left.0 _ c.in-Some.a.0 less c.in_ok-offer_across.ensures.continues
              c.attributes.invariant.1.1.0 c.in_ok-offer_across.ensures.listed,
          c.in_ok-offer_across.ensures.front,
        ),
      ),
    )

pub returns-clause-tried : goal.returns-clause-tried
returns-clause-tried c =
    attributes-all (setting_of c.args.job.now) c.args.node.0 c.args.taken.now.settled (sheet_of c.attributes.table).cells c.attributes.left.0
    c.in_default.ensures.found c.attributes.invariant.1.1.0
