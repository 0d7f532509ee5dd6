-- What a list of steps comes to by the tables on the stack, each with its node, its state and its cost, as the code has them in hand.
-- The terms of StepList.antt are what these tables stand for.
use Rattle.std.specs.Prelude.{◌≡◌, ℕ, suc, ◌+◌, ◌<◌, ◌==◌, List, [], ◌∷◌, Option, Some, None, Result, Ok, Err, length, option_map, reverse, if◌then◌else◌}
use Rattle.base_laws.specs.Firsts.{judged}
use Rattle.mq_base.specs.declared.ids.NodeId.{NodeId}
use Rattle.mq_base.specs.declared.ids.TableId.{TableId}
use Rattle.mq_base.specs.declared.plan.Step.{Step}
use Rattle.mq_base.specs.declared.plan.Step.TheVariants as step
use Rattle.cost_model.specs.Costs.{cut, step_work}
use Rattle.policy_base.specs.Accepted.{plain_of, sealed_of}
use Rattle.view_authority.specs.Breaches.{breach}
use Rattle.step_check.specs.declared.stack.Slot.{Slot}
use Rattle.step_check.specs.declared.stack.StepStack.{StepStack}
use Rattle.extended_plan.specs.declared.state.PlanTotals.{PlanTotals}
use Rattle.extended_plan.specs.declared.state.State.{State}
use Rattle.extended_plan.specs.declared.step_no.StepNo.{StepNo}
use Rattle.extended_plan.specs.declared.step_no.StepWhy.{StepWhy}
use Rattle.extended_plan.specs.declared.step_no.StepWhy.TheVariants.{Shape, NotThePlan, NotRunnable, Breach, NotTheGoal}
use Rattle.extended_plan.specs.Certificate.{is_goal}
use Rattle.extended_plan.specs.Gains.{shown}
use Rattle.extended_plan.specs.Job.{IsStateAt}
use Rattle.extended_plan.specs.Setting.{Setting, kind_at, leaf_of, root}
use Rattle.extended_plan.specs.States.{state}
use Rattle.extended_plan.specs.StepList.{stopped}
use Rattle.extended_plan.specs.Term.{Leaf, stands_on, stands_on_both}
use Rattle.extended_plan.specs.Ran.{ran}

-- the tables on a stack, the last made first
unfoldable pub slots_of : StepStack → List Slot
slots_of stack = reverse stack.slots.items

-- what is taken off the top of tables, where there is one, and the tables below it
abbrev pub Takes : List Slot → Option Slot → List Slot → Type 0
Takes slots None left = (slots ≡ []) × (left ≡ [])
Takes slots (Some slot) left = slots ≡ slot ∷ left

-- a table of a node of the plan, in a state of that node
pub record IsSlot (s : Setting) (slot : Slot) : Type 0 where
  pub node : slot.node.0 < length s.basis.nodes
  pub there : IsStateAt s slot.node.0 slot.state

-- the holder of a state may not hold the table that it stands for at a node
abbrev pub breach_at : Setting → NodeId → State → Option StepWhy
breach_at s n st =
    option_map (Breach st.holder) (breach (plain_of s.policy st.holder.0) (sealed_of s.policy st.holder.0) (shown s n.0 st))

-- the table of a node in a state, if the step to it is runnable, at this cost
abbrev pub placed : Setting → NodeId → ℕ → Option State → Result Slot StepWhy
placed s n cost None = Err NotRunnable
placed s n cost (Some st) = judged (breach_at s n st) (record { node = n; state = st; cost = cost })

-- the table after a step on a state or on two, whose result is at node n, where so much was paid before
abbrev pub stepped : Setting → NodeId → Step → ℕ → State → Option State → Result Slot StepWhy
stepped s n step paid x y =
    placed s n (cut (paid + step_work s.basis step x.holder.0 n.0 x.view)) (ran s n step x y)

-- the table of a leaf, at its place in the plan, if it has one
abbrev pub leaf_at : Setting → TableId → Option ℕ → Result Slot StepWhy
leaf_at s t None = Err NotThePlan
leaf_at s t (Some n) = placed s (record { 0 = n }) 0 (Some (state s (Leaf t)))

-- the table of a node on one table, or on two, if these are of its operands
abbrev pub one_slot : Setting → NodeId → Slot → Result Slot StepWhy
one_slot s n x =
    if stands_on (kind_at s n.0) (Some x.node.0) then stepped s n (step.Un n) x.cost x.state None else Err NotThePlan

abbrev pub two_slot : Setting → NodeId → Slot → Slot → Result Slot StepWhy
two_slot s n x y =
    if stands_on_both (kind_at s n.0) (Some x.node.0) (Some y.node.0) then stepped s n (step.Bin n) (cut (x.cost + y.cost)) x.state (Some y.state) else Err NotThePlan

-- tables with a new one on top, or why there is none
abbrev pub above : List Slot → Result Slot StepWhy → Result (List Slot) StepWhy
above slots (Ok slot) = Ok (slot ∷ slots)
above slots (Err why) = Err why

-- the tables after a step, or why it fails
abbrev pub slots_after : Setting → Step → List Slot → Result (List Slot) StepWhy
slots_after s (step.Base t) slots = above slots (leaf_at s t (leaf_of s t))
slots_after s (step.Enc a) (x ∷ slots) = above slots (stepped s x.node (step.Enc a) x.cost x.state None)
slots_after s (step.Dec a) (x ∷ slots) = above slots (stepped s x.node (step.Dec a) x.cost x.state None)
slots_after s (step.Send to) (x ∷ slots) = above slots (stepped s x.node (step.Send to) x.cost x.state None)
slots_after s (step.Un n) (x ∷ slots) = above slots (one_slot s n x)
slots_after s (step.Bin n) (y ∷ x ∷ slots) = above slots (two_slot s n x y)
slots_after s _ slots = Err Shape

-- what is wrong with the only table that is left
abbrev pub last_slot : Setting → Slot → Option StepWhy
last_slot s x = if x.node.0 == root s then if is_goal s x.state then None else Some NotTheGoal else Some NotThePlan

-- what a list comes to at its end, where these tables are left
abbrev pub slots_end : Setting → ℕ → List Slot → Result PlanTotals StepNo
slots_end s place (x ∷ []) = stopped place (last_slot s x) (Ok (record { state = x.state; cost = x.cost }))
slots_end s place _ = Err (record { at = place; why = Shape })

-- what a list comes to after a step
abbrev pub passed : ℕ → Result (List Slot) StepWhy → (List Slot → Result PlanTotals StepNo) → Result PlanTotals StepNo
passed place (Ok slots) next = next slots
passed place (Err why) next = Err (record { at = place; why = why })

-- what the steps from a place on come to, where the earlier ones left these tables
unfoldable pub slots_outcome : Setting → List Slot → ℕ → List Step → Result PlanTotals StepNo
slots_outcome s slots place [] = slots_end s place slots
slots_outcome s slots place (step ∷ rest) = passed place (slots_after s step slots) (λ next. slots_outcome s next (suc place) rest)
