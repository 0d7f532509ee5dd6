use Rattle.std.proofs.Common.{Err, ap, arith, length, sym, ◌∙◌}
use Rattle.std.proofs.lemmas.Result.{err_from_is_err_and}
use Rattle.extended_plan.specs.Job.{setting_of}
use Rattle.assign_table.specs.declared.table.TableNo.{TableNo}
use Rattle.assign_table.specs.inside.Sheet.{sheet_of}
use Rattle.assign_table.proofs.NearLaws.{none-crossing}
use Rattle.assign_table.proofs.GainLaws.{subjects-all, subjects-more}
use Rattle.assign_table.proofs.SettleLaws.{continues-then, crowd-later}
use Rattle.assign_table.proofs.settle.offer_sends.Goals as goal

pub returns-in_err-offer_gain-clause-full : goal.returns-in_err-offer_gain-clause-full
returns-in_err-offer_gain-clause-full c = λ full.
    let p = err_from_is_err_and c.from_residual.result c.from_residual.ensures.1 in
    crowd-later (setting_of c.args.job.now) c.args.node.0 c.args.room c.args.at c.args.from.now (sheet_of c.args.table.now)
    (sheet_of c.subjects.table) c.subjects.invariant.0
    (c.in_err-offer_gain.ensures.full (ap (λ (e : TableNo). Err e) (sym p.2) ∙ sym p.1 ∙ full))

pub subjects-preserved : goal.subjects-preserved
subjects-preserved c = (
  continues-then (setting_of c.args.job.now) c.args.node.0 c.args.room c.args.at c.args.from.now (sheet_of c.args.table.now)
      (sheet_of c.subjects.table) (sheet_of c.offer_gain.new.table) c.subjects.invariant.0 c.in_ok-offer_gain.ensures.continues,
  (
    subjects-more (setting_of c.args.job.now) c.args.node.0 c.args.room c.args.at c.args.from.now (sheet_of c.subjects.table)
        (sheet_of c.offer_gain.new.table) c.subjects.to c.in_ok-offer_gain.ensures.continues c.subjects.invariant.1.0
        c.in_ok-offer_gain.ensures.listed,
    c.after_send-gain.ensures.load,
  ),
)

pub returns-clause-tried : goal.returns-clause-tried
returns-clause-tried c =
    subjects-all (setting_of c.args.job.now) c.args.node.0 c.args.from.now (sheet_of c.subjects.table) c.subjects.to
    (omega (arith, c.subjects-test.false, ap length c.as_slice-subjects.ensures)) c.subjects.invariant.1.0

pub offer_gain-requires-clause-near : goal.offer_gain-requires-clause-near
offer_gain-requires-clause-near c = none-crossing _ _ _
