use Rattle.std.proofs.Common.{Err, ap, sym, ◌∙◌}
use Rattle.std.proofs.lemmas.Result.{err_from_is_err_and, on_ok_weaker}
use Rattle.extended_plan.specs.Job.{setting_of}
use Rattle.assign_table.specs.declared.table.TableNo.{TableNo}
use Rattle.assign_table.specs.inside.Sheet.{sheet_of}
use Rattle.assign_table.proofs.GainLaws.{on-both, steps-closed}
use Rattle.assign_table.proofs.SettleLaws.{continues-then, crowd-later}
use Rattle.assign_table.proofs.settle.offer_steps.Goals as goal

pub returns-in_err-offer_crypts-clause-full : goal.returns-in_err-offer_crypts-clause-full
returns-in_err-offer_crypts-clause-full c = λ full.
    let p = err_from_is_err_and c.from_residual.result c.from_residual.ensures.1 in
    c.in_err-offer_crypts.ensures.full (ap (λ (e : TableNo). Err e) (sym p.2) ∙ sym p.1 ∙ full)

pub returns-clause-continues : goal.returns-clause-continues
returns-clause-continues c =
    on_ok_weaker c.offer_sends.result
    (continues-then (setting_of c.args.job.now) c.args.node.0 c.args.room c.args.at c.args.taken.now.settled (sheet_of c.args.table.now)
    (sheet_of c.offer_crypts.new.table) (sheet_of c.offer_sends.new.table) c.in_ok-offer_crypts.ensures.continues)
    c.offer_sends.ensures.continues

pub returns-clause-closed : goal.returns-clause-closed
returns-clause-closed c =
    on-both c.offer_sends.result
    (steps-closed (setting_of c.args.job.now) c.args.node.0 c.args.room c.args.at c.args.taken.now.settled (sheet_of c.offer_crypts.new.table)
    (sheet_of c.offer_sends.new.table) c.in_ok-offer_crypts.ensures.tried)
    c.offer_sends.ensures.continues c.offer_sends.ensures.tried

pub returns-clause-full : goal.returns-clause-full
returns-clause-full c = λ full.
    crowd-later (setting_of c.args.job.now) c.args.node.0 c.args.room c.args.at c.args.taken.now.settled (sheet_of c.args.table.now)
    (sheet_of c.offer_crypts.new.table) c.in_ok-offer_crypts.ensures.continues (c.offer_sends.ensures.full full)
