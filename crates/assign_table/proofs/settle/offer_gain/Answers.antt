use Rattle.std.proofs.Common.{IfSome, subst, sym, ◌∙◌}
use Rattle.std.proofs.lemmas.Result.{on_ok_weaker}
use Rattle.extended_plan.specs.Job.{IsHeldAt, setting_of}
use Rattle.assign_table.specs.inside.Sheet.{sheet_of}
use Rattle.assign_table.proofs.GainLaws.{none-listed, on-both, step-continues, step-crowd, step-listed}
use Rattle.assign_table.proofs.NearLaws.{told-near}
use Rattle.assign_table.proofs.SettleLaws.{continues-none}
use Rattle.assign_table.proofs.settle.offer_gain.Goals as goal

pub offer-requires : goal.offer-requires
offer-requires c = record {
  near = told-near _ (c.in-Some.state, c.in-Some.cost) (sheet_of c.args.table.now).cells c.args.near.0 c.args.table.now.front
      (sym c.in-Some.is ∙ c.requires.gain) c.requires.near;
}

pub returns-in-None-clause-continues : goal.returns-in-None-clause-continues
returns-in-None-clause-continues c =
    continues-none (setting_of c.args.job.now) c.args.node.0 c.args.room c.args.at c.args.from.now (sheet_of c.args.table.now)

pub returns-in-None-clause-listed : goal.returns-in-None-clause-listed
returns-in-None-clause-listed c =
    none-listed (setting_of c.args.job.now) c.args.node c.args.step c.args.from.now (sheet_of c.args.table.now).cells (sym c.in-None.is ∙ c.requires.gain)

pub returns-in-Some-clause-continues : goal.returns-in-Some-clause-continues
returns-in-Some-clause-continues c =
    on-both c.offer.result
    (λ offered within.
    step-continues (setting_of c.args.job.now) c.args.job.now.ready c.args.node c.args.room c.args.at c.args.from.now c.requires.held c.args.step
    c.requires.stays c.in-Some.state c.in-Some.cost c.label_after.result (sym c.in-Some.is ∙ c.requires.gain) c.label_after.ensures.sum
    (sheet_of c.args.table.now) (sheet_of c.offer.new.self) c.label_after.ensures.no_lower
    (subst (λ gain. IfSome gain (λ gained. IsHeldAt (setting_of c.args.job.now) c.args.node.0 gained.0)) c.in-Some.is c.requires.within) offered within)
    c.offer.ensures.offered c.offer.ensures.within

pub returns-in-Some-clause-listed : goal.returns-in-Some-clause-listed
returns-in-Some-clause-listed c =
    on_ok_weaker c.offer.result
    (step-listed (setting_of c.args.job.now) c.args.job.now.ready c.args.node c.args.room c.args.at c.args.from.now c.requires.held c.args.step
    c.requires.stays c.in-Some.state c.in-Some.cost c.label_after.result (sym c.in-Some.is ∙ c.requires.gain) c.label_after.ensures.sum
    (sheet_of c.args.table.now) (sheet_of c.offer.new.self))
    c.offer.ensures.offered

pub returns-in-Some-clause-full : goal.returns-in-Some-clause-full
returns-in-Some-clause-full c = λ full.
    step-crowd (setting_of c.args.job.now) c.args.job.now.ready c.args.node c.args.room c.args.at c.args.from.now c.requires.held c.args.step
    c.requires.stays c.in-Some.state c.in-Some.cost c.label_after.result (sym c.in-Some.is ∙ c.requires.gain) c.label_after.ensures.sum
    (sheet_of c.args.table.now) (c.offer.ensures.refused full)
