use Rattle.std.proofs.Common.{◌≡◌, ◌*◌, ◌≤◌}
use Rattle.seal_times.specs.Costs.{step_count, step_blocks, sum_to}
use Rattle.seal_times.proofs.costs.cost_of.Given as goal

abbrev pub invariant-loop-step : goal.invariant-loop-step
invariant-loop-step l = record {
  messages : l.cost.messages ≡ sum_to (step_count l.case.seal l.case.value) l.step;
  few : l.cost.messages ≤ 9 * l.step;
  blocks : l.cost.blocks ≡ sum_to (step_blocks l.case.seal l.case.value) l.step;
  short : l.cost.blocks ≤ 45 * l.step;
}
