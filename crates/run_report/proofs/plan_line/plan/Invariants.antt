use Rattle.std.proofs.Common.{◌≡◌, map, take}
use Rattle.serde_json.specs.View.{view}
use Rattle.run_report.specs.PlanLine.{step_data}
use Rattle.run_report.proofs.plan_line.plan.Given as goal

abbrev pub invariant-steps : goal.invariant-steps
invariant-steps l = map view l.values.items ≡ map (step_data l.policy) (take l.taken-index l.steps)
