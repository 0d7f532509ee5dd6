-- What the best goal of blocks that are done tells of all valid extended plans.
use Rattle.std.proofs.Common.{◌≡◌, ℕ, ◌+◌, ◌-◌, ◌^◌, ◌≤◌, ◌<◌, List, length, Option, Some, None, ◌∙◌, ap, arith, min}
use Rattle.std.proofs.Math.Path.{subst}
use Rattle.mq_base.specs.declared.plan.Step.{Step}
use Rattle.cost_model.specs.Costs.{cut}
use Rattle.extended_plan.specs.declared.state.Entry.{Entry}
use Rattle.extended_plan.specs.Certificate.{is_goal}
use Rattle.extended_plan.specs.Ready.{IsReady}
use Rattle.extended_plan.specs.Setting.{Setting, root}
use Rattle.extended_plan.specs.States.{cost}
use Rattle.extended_plan.specs.Term.{Term}
use Rattle.extended_plan.specs.Validity.{IsValid}
use Rattle.extended_plan.proofs.BoundLaws.{goal_valid, valid_goal}
use Rattle.extended_plan.proofs.ViewLaws.{seen}
use Rattle.assign_table.specs.declared.way.Settled.{Settled}
use Rattle.assign_table.specs.Found.{CostsTooMuch, HasFew, IsLeastPlan, IsNoneFound, IsPlanFound, most_cost}
use Rattle.assign_table.specs.inside.Blocks.{AreDone, AreLabelsOf, IsAttainedAt, IsBestGoal, IsBestOf, IsGoalAt, base_of, start_of}
use Rattle.assign_table.specs.inside.Ways.{AreStepsOf, LeadsWithin, settled_at}
use Rattle.assign_table.proofs.BlockLaws.{bound}
use Rattle.assign_table.proofs.CountLaws.{few_reached}
use Rattle.assign_table.proofs.LabelLaws.{least_labels}
use Rattle.assign_table.proofs.PlaceLaws.{starts_low}

-- a plan has a root
pub root_below : (s : Setting) → IsReady s → (x : Term) → IsValid s x → root s < length s.basis.nodes
root_below s ready x valid = (seen s ready (root s) x valid.stands.gives valid.stands.runs).node

-- a valid extended plan is settled as a goal of the root, with a label of at most its cost, cut
record IsGoalOf (s : Setting) (arena : List Settled) (starts : List ℕ) (x : Term) : Type 0 where
  pub place : ℕ
  pub goal : IsGoalAt s arena (start_of starts (root s)) (start_of starts (root s + 1)) place
  pub enough : (settled_at arena place).label ≤ cut (cost s x)

goal_of : (s : Setting) → IsReady s → (arena : List Settled) (starts : List ℕ) → AreDone s arena starts (length s.basis.nodes)
    → (x : Term) → IsValid s x → IsGoalOf s arena starts x
goal_of s ready arena starts done x valid =
    let there = bound s ready arena starts (length s.basis.nodes) (λ k under. (done.block k under).closed) x (root s) (root_below s ready x valid) valid.stands in
    record {
      place = there.place;
      goal = (there.inside, ap (is_goal s) there.same ∙ goal_valid s x valid);
      enough = there.enough;
    }

-- where there is no goal, no extended plan is valid
pub none_valid : (s : Setting) → IsReady s → (arena : List Settled) (starts : List ℕ) → AreDone s arena starts (length s.basis.nodes)
    → IsBestOf s arena starts None → (x : Term) → IsValid s x → ⊥
none_valid s ready arena starts done none x valid =
    let goal = goal_of s ready arena starts done x valid in none goal.place goal.goal

-- the best goal is that of a valid extended plan, and none costs less than its label
pub record IsBestPlan (s : Setting) (arena : List Settled) (w : ℕ) : Type 0 where
  pub attained : IsAttainedAt s arena (root s) 0 w
  pub valid : IsValid s attained.term
  pub lowest : (x : Term) → IsValid s x → (settled_at arena w).label ≤ cut (cost s x)

pub best_plan : (s : Setting) → IsReady s → (arena : List Settled) (starts : List ℕ) (w : ℕ) → root s < length s.basis.nodes
    → AreDone s arena starts (length s.basis.nodes) → IsBestOf s arena starts (Some w) → IsBestPlan s arena w
best_plan s ready arena starts w below done best =
    let from : IsAttainedAt s arena (root s) (base_of s starts (root s)) w = (done.block (root s) below).attained w best.0.0 in
    record {
      attained = record {
        term = from.term;
        leads = from.leads;
        stands = from.stands;
        arrives = from.arrives;
        costs = from.costs;
        short = omega (arith, from.short);
      };
      valid = valid_goal s from.term from.stands (ap (is_goal s) from.arrives ∙ best.0.1);
      lowest = λ x valid. let goal = goal_of s ready arena starts done x valid in omega (arith, goal.enough, best.1 goal.place goal.goal);
    }

-- its way leads to a term of at most 200,000 steps
pub best_leads : (s : Setting) (arena : List Settled) (w : ℕ) → w < length arena → length arena ≤ 200000 → IsBestPlan s arena w
    → LeadsWithin arena (settled_at arena w).way 200000
best_leads s arena w below few best = record {
  term = best.attained.term;
  leads = best.attained.leads;
  few = omega (arith, best.attained.short, below, few);
}

-- numbers that are cut below the top are not cut
uncut : (label whole top : ℕ) → label ≡ min whole top → label < top → whole ≡ label
uncut label whole top is less = omega arith

below_cut : (label whole top : ℕ) → label ≤ min whole top → label ≤ whole
below_cut label whole top below = omega arith

-- its steps spell a least plan where its label is below the largest cost
pub best_least : (s : Setting) (arena : List Settled) (w : ℕ) (steps : List Step) → IsBestPlan s arena w → (settled_at arena w).label < most_cost
    → AreStepsOf arena (settled_at arena w).way steps → IsLeastPlan s steps (settled_at arena w).label
best_least s arena w steps best less are = record {
  term = best.attained.term;
  spelt = are best.attained.term best.attained.leads;
  valid = best.valid;
  costs = uncut (settled_at arena w).label (cost s best.attained.term) (2 ^ 128 - 1) best.attained.costs less;
  lowest = λ x valid. below_cut (settled_at arena w).label (cost s x) (2 ^ 128 - 1) (best.lowest x valid);
}

pub best_few : (s : Setting) (arena : List Settled) (w : ℕ) (steps : List Step) → w < length arena → length arena ≤ 200000 → IsBestPlan s arena w
    → AreStepsOf arena (settled_at arena w).way steps → length steps ≤ 200000
best_few s arena w steps below few best are =
    omega (arith, ap length (are best.attained.term best.attained.leads), best.attained.short, below, few)

-- and where it is the largest cost, each valid extended plan costs at least that
pub best_dear : (s : Setting) (arena : List Settled) (w : ℕ) → IsBestPlan s arena w → most_cost ≤ (settled_at arena w).label → CostsTooMuch s
best_dear s arena w best most = record {
  term = best.attained.term;
  valid = best.valid;
  all = λ x valid. between most_cost (settled_at arena w).label (cost s x) most (below_cut (settled_at arena w).label (cost s x) (2 ^ 128 - 1) (best.lowest x valid));
}
  where
    between : (a b c : ℕ) → a ≤ b → b ≤ c → a ≤ c
    between a b c first second = omega arith

-- not too many states are reached
pub few_at_root : (s : Setting) → IsReady s → (arena : List Settled) (starts : List ℕ) → root s < length s.basis.nodes
    → AreDone s arena starts (length s.basis.nodes) → HasFew s
few_at_root s ready arena starts below done many = few_reached s ready arena starts (length s.basis.nodes) (root s) done below many

-- the block of the root is the last one
pub best_root : (s : Setting) (arena : List Settled) (starts : List ℕ) (count : ℕ) (best : Option ℕ) → count ≡ length s.basis.nodes → 1 ≤ count
    → IsBestGoal s arena (start_of starts (count - 1)) (start_of starts count) best → IsBestOf s arena starts best
best_root s arena starts count best same some is =
    let last : count ≡ root s + 1 = omega (arith, same, some) in
    subst (λ i. IsBestGoal s arena (start_of starts (root s)) (start_of starts i) best) last
    (subst (λ i. IsBestGoal s arena (start_of starts (i - 1)) (start_of starts count) best) same is)

-- what a search answers when the states of all nodes are settled
module _ (s : Setting) (ready : IsReady s) (arena : List Settled) (starts : List ℕ) (done : AreDone s arena starts (length s.basis.nodes)) where
  -- the best goal stands in the arena
  pub best_inside : (w : ℕ) → root s < length s.basis.nodes → IsBestOf s arena starts (Some w) → w < length arena
  best_inside w below best =
      omega (arith, best.0.0.high, starts_low arena starts (length s.basis.nodes) done.blocks (root s + 1) (omega (arith, below)))

  -- there is no goal
  pub none_found : (labels : List (List Entry)) → IsBestOf s arena starts None → AreLabelsOf arena starts (length s.basis.nodes) labels
      → IsNoneFound s labels
  none_found labels none are = record {
    none = none_valid s ready arena starts done none;
    labelled = least_labels s ready arena starts labels done are;
  }

  -- the best goal's way can be told
  pub leads_found : (w : ℕ) → root s < length s.basis.nodes → IsBestOf s arena starts (Some w) → LeadsWithin arena (settled_at arena w).way 200000
  leads_found w below best =
      best_leads s arena w (best_inside w below best) done.few (best_plan s ready arena starts w below done best)

  -- its label is no more than the largest cost
  pub label_found : (w : ℕ) → root s < length s.basis.nodes → IsBestOf s arena starts (Some w) → (settled_at arena w).label ≤ most_cost
  label_found w below best =
      let plan : IsBestPlan s arena w = best_plan s ready arena starts w below done best in
      at_most (settled_at arena w).label (cost s plan.attained.term) (2 ^ 128 - 1) plan.attained.costs
    where
      at_most : (label whole top : ℕ) → label ≡ min whole top → label ≤ top
      at_most label whole top is = omega arith

  -- where it is less, it is a cost
  pub plan_found : (w : ℕ) (steps : List Step) (labels : List (List Entry)) → root s < length s.basis.nodes → IsBestOf s arena starts (Some w)
      → (settled_at arena w).label < most_cost → AreStepsOf arena (settled_at arena w).way steps
      → AreLabelsOf arena starts (length s.basis.nodes) labels
      → IsPlanFound s steps (settled_at arena w).label labels
  plan_found w steps labels below best less are listed =
      let plan : IsBestPlan s arena w = best_plan s ready arena starts w below done best in
      record {
        plan = best_least s arena w steps plan less are;
        exact = less;
        few = best_few s arena w steps (best_inside w below best) done.few plan are;
        labelled = least_labels s ready arena starts labels done listed;
      }

  -- its label is the largest cost, and so it may cost more
  pub dear_found : (w : ℕ) → root s < length s.basis.nodes → IsBestOf s arena starts (Some w) → most_cost ≤ (settled_at arena w).label
      → CostsTooMuch s
  dear_found w below best most = best_dear s arena w (best_plan s ready arena starts w below done best) most
