use Rattle.std.proofs.Common.{◌≡◌, ◌+◌, ◌∷◌, drop, get_or, length, refl, sym, ◌∙◌, ap, subst, arith}
use Rattle.std.specs.Prelude.{Result, Err}
use Rattle.extended_plan.specs.Job.{setting_of}
use Rattle.mq_base.specs.declared.ids.NodeId.{NodeId}
use Rattle.provider_engine.specs.declared.held.Held.{Held}
use Rattle.plan_runner.specs.declared.stop.RunStop.{RunStop}
use Rattle.plan_runner.specs.declared.stop.RunStop.TheVariants.{RowRange}
use Rattle.plan_runner.specs.Running.{IsFirstWide}
use Rattle.mq_base.specs.declared.plan.Step.TheVariants.{Base, Bin}
use Rattle.plan_runner.proofs.BaseLaws.{base_goes, base_ready, base_there}
use Rattle.plan_runner.proofs.OneLaws.{one_goes, one_runnable, one_there}
use Rattle.plan_runner.proofs.StepLaws.{at_step, is_on_one, same_error, with_stack, with_waiting}
use Rattle.plan_runner.proofs.TwoLaws.{two_goes, two_runnable, two_there, two_wide}
use Rattle.plan_runner.proofs.step.run_step.Goals as goal

-- ---- a leaf

pub take-table-requires : goal.take-table-requires
take-table-requires g c =
    let s = setting_of c.args.job.now in
    let under = at_step s c.args.keys.now.keys g.contents c.args.steps.now c.args.place c.args.waiting.now c.args.stack.now _
    (Base c.in-Base.field-0) c.requires.1.0 c.in-Base.is c.requires.1.1.1 in
    base_there s g.contents c.in-Base.field-0 (drop (c.args.place + 1) c.args.steps.now) c.args.waiting.now under.tables

pub leaf_on-requires : goal.leaf_on-requires
leaf_on-requires g c =
    let s = setting_of c.args.job.now in
    let left = drop (c.args.place + 1) c.args.steps.now in
    let under = at_step s c.args.keys.now.keys g.contents c.args.steps.now c.args.place c.args.waiting.now c.args.stack.now _
    (Base c.in-Base.field-0) c.requires.1.0 c.in-Base.is c.requires.1.1.1 in
    base_ready s c.args.keys.now.keys g.contents c.in-Base.field-0 left c.args.place c.take-table.result c.take-table.new.self c.args.stack.now
    (with_waiting s c.args.keys.now.keys g.contents (Base c.in-Base.field-0 ∷ left) c.args.place c.args.waiting.now _ c.args.stack.now
    c.take-table.ensures under)

pub returns-in_ok-push-in-Base-clause-goes : goal.returns-in_ok-push-in-Base-clause-goes
returns-in_ok-push-in-Base-clause-goes g c =
    let s = setting_of c.args.job.now in
    let left = drop (c.args.place + 1) c.args.steps.now in
    let under = at_step s c.args.keys.now.keys g.contents c.args.steps.now c.args.place c.args.waiting.now c.args.stack.now _
    (Base c.in-Base.field-0) c.requires.1.0 c.in-Base.is c.requires.1.1.1 in
    with_stack s c.args.keys.now.keys g.contents left (c.args.place + 1) c.take-table.new.self _ c.push.new.self (sym c.in_ok-push-in-Base.ensures)
    (base_goes s c.args.keys.now.keys g.contents c.requires.0 c.in-Base.field-0 left c.args.place c.take-table.result c.take-table.new.self
    c.in_ok-made-in-Base.made c.args.stack.now
    (with_waiting s c.args.keys.now.keys g.contents (Base c.in-Base.field-0 ∷ left) c.args.place c.args.waiting.now _ c.args.stack.now
    c.take-table.ensures under) c.in_ok-made-in-Base.ensures)

-- ---- an operation on two tables

pub take-right-requires : goal.take-right-requires
take-right-requires g c =
    let s = setting_of c.args.job.now in
    let under = at_step s c.args.keys.now.keys g.contents c.args.steps.now c.args.place c.args.waiting.now c.args.stack.now _
    (Bin c.in-Bin.node) c.requires.1.0 c.in-Bin.is c.requires.1.1.1 in
    omega (
      arith,
      two_there s c.args.keys.now.keys g.contents c.in-Bin.node (drop (c.args.place + 1) c.args.steps.now) c.args.place c.args.stack.now under.made,
    )

pub take-left-requires : goal.take-left-requires
take-left-requires g c =
    let s = setting_of c.args.job.now in
    let under = at_step s c.args.keys.now.keys g.contents c.args.steps.now c.args.place c.args.waiting.now c.args.stack.now _
    (Bin c.in-Bin.node) c.requires.1.0 c.in-Bin.is c.requires.1.1.1 in
    omega (
      arith,
      two_there s c.args.keys.now.keys g.contents c.in-Bin.node (drop (c.args.place + 1) c.args.steps.now) c.args.place c.args.stack.now under.made,
      ap length c.take-right.ensures,
    )

pub two_on-requires : goal.two_on-requires
two_on-requires g c =
    let s = setting_of c.args.job.now in
    let left = drop (c.args.place + 1) c.args.steps.now in
    let under = at_step s c.args.keys.now.keys g.contents c.args.steps.now c.args.place c.args.waiting.now c.args.stack.now _
    (Bin c.in-Bin.node) c.requires.1.0 c.in-Bin.is c.requires.1.1.1 in
    two_runnable s c.args.keys.now.keys g.contents c.requires.0 c.in-Bin.node left c.args.place c.take-left.result c.take-right.result
    c.take-left.new.self
    (with_stack s c.args.keys.now.keys g.contents (Bin c.in-Bin.node ∷ left) c.args.place c.args.waiting.now c.args.stack.now _
    (c.take-right.ensures ∙ ap (λ others. c.take-right.result ∷ others) c.take-left.ensures) under).made

pub returns-in_err-made-in-Bin-clause-range : goal.returns-in_err-made-in-Bin-clause-range
returns-in_err-made-in-Bin-clause-range g c n stopped =
    let s = setting_of c.args.job.now in
    let left = drop (c.args.place + 1) c.args.steps.now in
    let under = at_step s c.args.keys.now.keys g.contents c.args.steps.now c.args.place c.args.waiting.now c.args.stack.now _
    (Bin c.in-Bin.node) c.requires.1.0 c.in-Bin.is c.requires.1.1.1 in
    let failed : RunStop = c.in_err-made-in-Bin.field-0.0 in
    let same : ◌≡◌ {A = Result Held RunStop} (Err failed) (Err (RowRange n)) =
    same_error Held c.from_residual-in_err-made-in-Bin.result failed (RowRange n) stopped c.from_residual-in_err-made-in-Bin.ensures.1 in
    subst (λ (i : NodeId). IsFirstWide s g.contents i.0) (sym (c.in_err-made-in-Bin.ensures.named n same))
    (two_wide s c.args.keys.now.keys g.contents c.requires.0 c.in-Bin.node left c.args.place (omega arith) c.args.waiting.now
    c.take-left.result c.take-right.result c.take-left.new.self
    (with_stack s c.args.keys.now.keys g.contents (Bin c.in-Bin.node ∷ left) c.args.place c.args.waiting.now c.args.stack.now _
    (c.take-right.ensures ∙ ap (λ others. c.take-right.result ∷ others) c.take-left.ensures) under)
    (c.in_err-made-in-Bin.ensures.range n same c.args.keys.now.keys))

pub returns-in_ok-push-in-Bin-clause-goes : goal.returns-in_ok-push-in-Bin-clause-goes
returns-in_ok-push-in-Bin-clause-goes g c =
    let s = setting_of c.args.job.now in
    let left = drop (c.args.place + 1) c.args.steps.now in
    let under = at_step s c.args.keys.now.keys g.contents c.args.steps.now c.args.place c.args.waiting.now c.args.stack.now _
    (Bin c.in-Bin.node) c.requires.1.0 c.in-Bin.is c.requires.1.1.1 in
    with_stack s c.args.keys.now.keys g.contents left (c.args.place + 1) c.args.waiting.now _ c.push-in-Bin.new.self (sym c.in_ok-push-in-Bin.ensures)
    (two_goes s c.args.keys.now.keys g.contents c.requires.0 c.in-Bin.node left c.args.place (omega arith) c.args.waiting.now
    c.take-left.result c.take-right.result c.in_ok-made-in-Bin.made c.take-left.new.self
    (with_stack s c.args.keys.now.keys g.contents (Bin c.in-Bin.node ∷ left) c.args.place c.args.waiting.now c.args.stack.now _
    (c.take-right.ensures ∙ ap (λ others. c.take-right.result ∷ others) c.take-left.ensures) under)
    (c.in_ok-made-in-Bin.ensures.made c.args.keys.now.keys))

-- ---- a step on one table

pub take-held-requires : goal.take-held-requires
take-held-requires g c =
    let s = setting_of c.args.job.now in
    let taking = get_or c.args.steps.now c.args.place (Base (record { 0 = 0 })) in
    let under = at_step s c.args.keys.now.keys g.contents c.args.steps.now c.args.place c.args.waiting.now c.args.stack.now
    (Base (record { 0 = 0 })) taking c.requires.1.0 refl c.requires.1.1.1 in
    one_there s c.args.keys.now.keys g.contents taking (is_on_one taking c.in_default.not-Base c.in_default.not-Bin)
    (drop (c.args.place + 1) c.args.steps.now) c.args.place c.args.stack.now under.made

pub one_on-requires : goal.one_on-requires
one_on-requires g c =
    let s = setting_of c.args.job.now in
    let taking = get_or c.args.steps.now c.args.place (Base (record { 0 = 0 })) in
    let left = drop (c.args.place + 1) c.args.steps.now in
    let under = at_step s c.args.keys.now.keys g.contents c.args.steps.now c.args.place c.args.waiting.now c.args.stack.now
    (Base (record { 0 = 0 })) taking c.requires.1.0 refl c.requires.1.1.1 in
    let may = one_runnable s c.args.keys.now.keys g.contents c.requires.0 taking (is_on_one taking c.in_default.not-Base c.in_default.not-Bin)
    left c.args.place c.take-held.result c.take-held.new.self
    (with_stack s c.args.keys.now.keys g.contents (taking ∷ left) c.args.place c.args.waiting.now c.args.stack.now _
    c.take-held.ensures under).made in
    record { of_job = may.0; opened = may.1; runnable = may.2; typed = (c.requires.0).typed }

pub returns-in_ok-push-in_default-clause-goes : goal.returns-in_ok-push-in_default-clause-goes
returns-in_ok-push-in_default-clause-goes g c =
    let s = setting_of c.args.job.now in
    let taking = get_or c.args.steps.now c.args.place (Base (record { 0 = 0 })) in
    let left = drop (c.args.place + 1) c.args.steps.now in
    let under = at_step s c.args.keys.now.keys g.contents c.args.steps.now c.args.place c.args.waiting.now c.args.stack.now
    (Base (record { 0 = 0 })) taking c.requires.1.0 refl c.requires.1.1.1 in
    with_stack s c.args.keys.now.keys g.contents left (c.args.place + 1) c.args.waiting.now _ c.push-in_default.new.self
    (sym c.in_ok-push-in_default.ensures)
    (one_goes s c.args.keys.now.keys g.contents c.requires.0 taking (is_on_one taking c.in_default.not-Base c.in_default.not-Bin)
    left c.args.place (omega arith) c.args.waiting.now c.take-held.result c.in_ok-made-in_default.made c.take-held.new.self
    (with_stack s c.args.keys.now.keys g.contents (taking ∷ left) c.args.place c.args.waiting.now c.args.stack.now _ c.take-held.ensures under)
    c.in_ok-made-in_default.ensures)
