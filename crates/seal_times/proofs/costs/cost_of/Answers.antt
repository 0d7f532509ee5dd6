use Rattle.std.proofs.Common.{◌≡◌, ℕ, ◌+◌, ◌*◌, ap, ◌∙◌, arith}
use Rattle.std.proofs.lemmas.List.FromFn.{sum_by-map-range_with_len_more}
use Rattle.seal_times.specs.Costs.{blocks_of, messages_of, step_count, step_blocks, sum_to}
use Rattle.seal_times.specs.declared.costs.Messages.{Messages}
use Rattle.seal_times.proofs.costs.cost_of.Goals as goal

-- a sum with the number of one more step
more : (number : ℕ → ℕ) (steps sum next : ℕ) → sum ≡ sum_to number steps → next ≡ number steps → sum + next ≡ sum_to number (steps + 1)
more number steps sum next so_far one =
    omega (arith, so_far, one, sum_by-map-range_with_len_more (λ x. x) number 0 steps steps (omega arith))

pub loop-step-preserved : goal.loop-step-preserved
loop-step-preserved c =
    let case = c.args.case in
    let found : c.messages_of-messages.result ≡ messages_of case.seal case.value c.loop-step.step = c.messages_of-messages.ensures.value in
    record {
      messages = more (step_count case.seal case.value) c.loop-step.step c.loop-step.cost.messages c.messages_of-messages.result.count
          c.loop-step.invariant.messages (ap (λ (m : Messages). m.count) found);
      few = omega (arith, c.loop-step.invariant.few, c.messages_of-messages.ensures.few);
      blocks = more (step_blocks case.seal case.value) c.loop-step.step c.loop-step.cost.blocks c.blocks_of.result
          c.loop-step.invariant.blocks (c.blocks_of.ensures.value ∙ ap (λ (m : Messages). m.count * blocks_of m.bytes) found);
      short = omega (arith, c.loop-step.invariant.short, c.blocks_of.ensures.few);
    }
