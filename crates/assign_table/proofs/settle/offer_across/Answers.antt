use Rattle.std.proofs.Common.{IfSome, None, ap, refl, subst, sym, ◌∙◌}
use Rattle.std.specs.Prelude.{option_map}
use Rattle.std.proofs.lemmas.Result.{on_ok_weaker}
use Rattle.base_laws.specs.Sets.{has}
use Rattle.mq_base.specs.declared.plan.Step.{Step}
use Rattle.extended_plan.specs.Gains.{step_gain}
use Rattle.extended_plan.specs.Job.{setting_of, told}
use Rattle.assign_table.specs.inside.Settling.{IsGainListed, Stays}
use Rattle.assign_table.proofs.CrossLaws.{cross-listed, crypt-gains, crypt-stays}
use Rattle.assign_table.proofs.GainLaws.{on-both}
use Rattle.assign_table.proofs.NearLaws.{crossing-back, front-later}
use Rattle.assign_table.proofs.settle.offer_across.Goals as goal

pub offer_gain-requires-clause-stays : goal.offer_gain-requires-clause-stays
offer_gain-requires-clause-stays c =
    subst Stays (sym c.crypt_of-step.ensures) (crypt-stays c.args.a (has c.args.from.now.state.view.enc.0 c.args.a.0))

pub offer_gain-requires-clause-gain : goal.offer_gain-requires-clause-gain
offer_gain-requires-clause-gain c =
    c.after_cross-gain.ensures.answers
    ∙ ap (option_map told)
    (sym (ap (λ (act : Step). step_gain (setting_of c.args.job.now) c.args.node act c.args.from.now.state None) c.crypt_of-step.ensures
    ∙ crypt-gains (setting_of c.args.job.now) c.args.node c.args.a c.args.from.now.state (has c.args.from.now.state.view.enc.0 c.args.a.0)
    c.requires.held refl))

pub offer_gain-requires-clause-near : goal.offer_gain-requires-clause-near
offer_gain-requires-clause-near c =
    let s = setting_of c.args.job.now in
    let e = c.args.from.now in
    let cells = c.args.table.now.cells.entries in
    rw c.of.ensures
    (crossing-back s c.args.node.0 cells e c.args.table.now.front c.args.a (step_gain s c.args.node c.crypt_of-step.result e.state None)
    (ap (λ (act : Step). step_gain s c.args.node act e.state None) c.crypt_of-step.ensures
    ∙ crypt-gains s c.args.node c.args.a e.state (has e.state.view.enc.0 c.args.a.0) c.requires.held refl)
    c.requires.front.listed c.requires.front.low)

pub returns-clause-front : goal.returns-clause-front
returns-clause-front c =
    on-both c.offer_gain.result
    (λ later same.
    front-later (setting_of c.args.job.now) c.args.node.0 c.args.room c.args.at c.args.from.now c.args.table.now c.offer_gain.new.table
    c.requires.front same later)
    c.offer_gain.ensures.continues c.offer_gain.ensures.front

pub returns-clause-listed : goal.returns-clause-listed
returns-clause-listed c =
    on_ok_weaker c.offer_gain.result
    (λ listed.
    cross-listed (setting_of c.args.job.now) c.args.node.0 c.args.a c.args.from.now c.offer_gain.new.table.cells.entries c.requires.crosses
    (subst (λ found. IfSome found (IsGainListed c.offer_gain.new.table.cells.entries c.args.from.now.label))
    (ap (λ (act : Step). step_gain (setting_of c.args.job.now) c.args.node act c.args.from.now.state None) c.crypt_of-step.ensures
    ∙ crypt-gains (setting_of c.args.job.now) c.args.node c.args.a c.args.from.now.state (has c.args.from.now.state.view.enc.0 c.args.a.0)
    c.requires.held refl)
    listed))
    c.offer_gain.ensures.listed
