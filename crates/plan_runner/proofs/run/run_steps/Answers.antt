use Rattle.std.proofs.Common.{◌≡◌, [], length, ◌∙◌, subst, sym, arith}
use Rattle.std.proofs.lemmas.List.{drop_all}
use Rattle.extended_plan.specs.Job.{setting_of}
use Rattle.plan_runner.specs.declared.stop.RunStop.TheVariants.{RowRange}
use Rattle.plan_runner.specs.inside.UnderWay.{IsRanTo, IsUnderWay}
use Rattle.plan_runner.proofs.RunLaws.{end_ran, end_there}
use Rattle.plan_runner.proofs.StepLaws.{same_error, with_stack, with_waiting}
use Rattle.plan_runner.proofs.run.run_steps.Goals as goal

pub loop-place-init : goal.loop-place-init
loop-place-init g c =
    let s = setting_of c.args.job.now in
    with_stack s c.args.keys.now.keys g.contents c.args.steps.now 0 c.of-waiting.result [] c.new-stack.result (sym c.new-stack.ensures)
    (with_waiting s c.args.keys.now.keys g.contents c.args.steps.now 0 c.args.tables c.of-waiting.result []
    (sym (c.of-waiting.ensures ∙ c.into_vec.ensures)) c.requires.1.1)

pub returns-in_err-run_step-clause-range : goal.returns-in_err-run_step-clause-range
returns-in_err-run_step-clause-range g c n stopped =
    c.in_err-run_step.ensures.range n
    (same_error _ c.from_residual.result c.in_err-run_step.field-0.0 (RowRange n) stopped c.from_residual.ensures.1)

pub take-requires : goal.take-requires
take-requires g c =
    let s = setting_of c.args.job.now in
    end_there s c.args.keys.now.keys g.contents c.loop-place.place c.loop-place.waiting c.loop-place.stack
    (subst (λ left. IsUnderWay s c.args.keys.now.keys g.contents left c.loop-place.place c.loop-place.waiting c.loop-place.stack)
    (drop_all c.loop-place.place c.args.steps.now c.loop-place-test.false) c.loop-place.invariant)

pub returns-clause-ran : goal.returns-clause-ran
returns-clause-ran g c =
    let s = setting_of c.args.job.now in
    let end : c.loop-place.place ≡ length c.args.steps.now = omega arith in
    subst (λ place. IsRanTo s c.args.keys.now.keys g.contents place c.take.result) end
    (end_ran s c.args.keys.now.keys g.contents c.loop-place.place c.loop-place.waiting c.take.result c.take.new.self
    (with_stack s c.args.keys.now.keys g.contents [] c.loop-place.place c.loop-place.waiting c.loop-place.stack _ c.take.ensures
    (subst (λ left. IsUnderWay s c.args.keys.now.keys g.contents left c.loop-place.place c.loop-place.waiting c.loop-place.stack)
    (drop_all c.loop-place.place c.args.steps.now c.loop-place-test.false) c.loop-place.invariant)))
