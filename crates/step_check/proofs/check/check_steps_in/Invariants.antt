use Rattle.std.proofs.Common.{◌≡◌, ◌≤◌, drop, length, []}
use Rattle.std.specs.List.{AllByRecursion}
use Rattle.extended_plan.specs.Job.{setting_of}
use Rattle.step_check.specs.Room.{room_of}
use Rattle.step_check.specs.inside.Slots.{IsSlot, slots_of, slots_outcome}
use Rattle.step_check.proofs.check.check_steps_in.Given as goal

-- the steps that are left decide, by the tables that the earlier ones left
abbrev pub invariant-loop-at : goal.invariant-loop-at
invariant-loop-at l = record {
  left : slots_outcome (setting_of l.job) (slots_of l.stack) l.at (drop l.at l.steps) ≡ slots_outcome (setting_of l.job) [] 0 l.steps;
  stand : AllByRecursion (IsSlot (setting_of l.job)) (slots_of l.stack);
  room : room_of l.stack ≡ room_of l.fn.stack;
  few : length (slots_of l.stack) ≤ l.at;
}
