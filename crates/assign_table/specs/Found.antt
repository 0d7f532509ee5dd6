-- What a search for a least valid extended plan answers, and when. docs/MODEL.md, "Search", tells it in prose.
use Rattle.std.specs.Prelude.{◌≡◌, ℕ, ◌-◌, ◌^◌, ◌<◌, ◌≤◌, List, length}
use Rattle.mq_base.specs.declared.plan.Step.{Step}
use Rattle.extended_plan.specs.declared.state.Entry.{Entry}
use Rattle.extended_plan.specs.declared.state.Found.{Found}
use Rattle.extended_plan.specs.declared.state.Found.TheVariants as found
use Rattle.extended_plan.specs.Certificate.{AreLeastLabels}
use Rattle.extended_plan.specs.Setting.{Setting, root}
use Rattle.extended_plan.specs.States.{HasTooMany, cost}
use Rattle.extended_plan.specs.Term.{Term, spell}
use Rattle.extended_plan.specs.Validity.{IsValid}

-- the largest cost that a label can tell, and which it also has for each greater one
abbrev pub most_cost : ℕ
most_cost = 2 ^ 128 - 1

-- the steps spell a valid extended plan of this cost, and no valid extended plan of any length costs less
pub record IsLeastPlan (s : Setting) (steps : List Step) (least : ℕ) : Type 0 where
  pub term : Term
  pub spelt : spell term ≡ steps
  pub valid : IsValid s term
  pub costs : cost s term ≡ least
  pub lowest : (x : Term) → IsValid s x → least ≤ cost s x

-- a least plan was found: it costs less than the largest cost, has at most 200,000 steps, and the labels are the least ones
pub record IsPlanFound (s : Setting) (steps : List Step) (least : ℕ) (labels : List (List Entry)) : Type 0 where
  pub plan : IsLeastPlan s steps least
  pub exact : least < most_cost
  pub few : length steps ≤ 200000
  pub labelled : AreLeastLabels s labels

-- it was found that there is no valid extended plan
pub record IsNoneFound (s : Setting) (labels : List (List Entry)) : Type 0 where
  pub none : (x : Term) → IsValid s x → ⊥
  pub labelled : AreLeastLabels s labels

-- what a search answers where not too many states are reached and costs are within the range
abbrev pub IsAnswer : Setting → Found → Type 0
IsAnswer s (found.Plan steps cost labels) = IsPlanFound s steps cost labels.nodes
IsAnswer s (found.Nothing labels) = IsNoneFound s labels.nodes

-- not too many states are reached
abbrev pub HasFew : Setting → Type 0
HasFew s = HasTooMany s (root s) → ⊥

-- there is a valid extended plan, and each costs at least the largest cost
pub record CostsTooMuch (s : Setting) : Type 0 where
  pub term : Term
  pub valid : IsValid s term
  pub all : (x : Term) → IsValid s x → most_cost ≤ cost s x
