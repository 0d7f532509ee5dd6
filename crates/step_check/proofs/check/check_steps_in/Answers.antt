use Rattle.std.proofs.Common.{◌+◌, drop, rules, sym, ◌∙◌, ap, arith}
use Rattle.extended_plan.specs.Job.{setting_of}
use Rattle.step_check.specs.inside.Slots.{slots_end, slots_of, slots_outcome}
use Rattle.step_check.proofs.PassLaws.{steps-end, steps-more, steps-stop}
use Rattle.step_check.proofs.SlotLaws.{same_outcome}
use Rattle.step_check.proofs.check.check_steps_in.Goals as goal

pub returns-in-Err-clause-found : goal.returns-in-Err-clause-found
returns-in-Err-clause-found c =
    let s = setting_of c.args.job.now in
    sym (steps-stop s (slots_of c.loop-at.stack) c.args.steps.now c.loop-at.at _ c.in-Err.why (omega arith) c.in-Err.ensures.made)
    ∙ c.loop-at.invariant.left
    ∙ same_outcome s c.args.job.now.ready c.args.steps.now

pub loop-at-preserved : goal.loop-at-preserved
loop-at-preserved c = record {
  left =
      ap (λ slots. slots_outcome (setting_of c.args.job.now) slots (c.loop-at.at + 1) (drop (c.loop-at.at + 1) c.args.steps.now)) c.push.ensures.top
      ∙ sym (steps-more (setting_of c.args.job.now) (slots_of c.loop-at.stack) _ c.args.steps.now c.loop-at.at _ (omega arith) c.in-Ok.ensures.made)
      ∙ c.loop-at.invariant.left;
  stand = search rules;
  room = c.push.ensures.room ∙ c.in-Ok.ensures.room ∙ c.loop-at.invariant.room;
  few = grind (arith, c.push.ensures.top, c.in-Ok.ensures.fewer);
}

pub returns-clause-found : goal.returns-clause-found
returns-clause-found c =
    let s = setting_of c.args.job.now in
    c.at_end.ensures.found
    ∙ ap (λ n. slots_end s n (slots_of c.loop-at.stack)) (omega arith)
    ∙ sym (steps-end s (slots_of c.loop-at.stack) c.args.steps.now c.loop-at.at (omega arith))
    ∙ c.loop-at.invariant.left
    ∙ same_outcome s c.args.job.now.ready c.args.steps.now
