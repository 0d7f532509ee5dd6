-- What is known of a run before each step. Only the calls of a run speak of this.
use Rattle.std.specs.Prelude.{◌≡◌, ℕ, ◌-◌, ◌<◌, List, length, map, Ok, Some}
use Rattle.std.specs.List.{AllByRecursion, range_with_len}
use Rattle.extended_plan.specs.declared.state.PlanTotals.{PlanTotals}
use Rattle.extended_plan.specs.Setting.{Setting, root}
use Rattle.extended_plan.specs.StepList.{outcome_after}
use Rattle.extended_plan.specs.Term.{Term, node_of}
use Rattle.extended_plan.specs.Validity.{profile}
use Rattle.mq_base.specs.declared.plan.Step.{Step}
use Rattle.mq_base.specs.declared.plan.Step.TheVariants as step
use Rattle.mq_base.specs.declared.table.PlainTable.{PlainTable}
use Rattle.provider_engine.specs.declared.held.Held.{Held}
use Rattle.provider_engine.specs.Wide.{IsWide}
use Rattle.row_algebra.specs.Contents.{Contents}
use Rattle.plan_runner.specs.inside.Given.{IsGiven}
use Rattle.plan_runner.specs.inside.Order.{done, taken}
use Rattle.plan_runner.specs.inside.Stack.{AreHeldTo, IsHeldTo}
use Rattle.plan_runner.specs.Running.{IsNarrow}

-- the steps that are left do the nodes from the next one on, in order, and no node before that one is wide
pub record IsInOrder (s : Setting) (contents : Contents) (left : List Step) : Type 0 where
  pub next : ℕ
  pub does : done s left ≡ range_with_len next (length s.basis.nodes - next)
  pub narrow : (m : ℕ) → m < next → IsWide contents s.basis.nodes m → ⊥

-- the tables that wait are those that the steps that are left take, in order
pub record AreWaiting (s : Setting) (contents : Contents) (left : List Step) (waiting : List PlainTable) : Type 0 where
  pub takes : taken left ≡ map (λ (table : PlainTable). table.table) waiting
  pub given : AllByRecursion (IsGiven s contents) waiting

-- the tables on the stack stand for terms from which the steps that are left, the first of them at a place, come to a valid plan
pub record AreMade (s : Setting) (keys : List (List ℕ)) (contents : Contents) (left : List Step) (place : ℕ) (stack : List Held) : Type 0 where
  pub terms : List Term
  pub held : AreHeldTo s keys contents place terms stack
  pub totals : PlanTotals
  pub goes : outcome_after s terms place left ≡ Ok totals

-- a run before the step at a place, which is the first of those that are left
pub record IsUnderWay (s : Setting) (keys : List (List ℕ)) (contents : Contents) (left : List Step) (place : ℕ) (waiting : List PlainTable)
    (stack : List Held) : Type 0 where
  pub made : AreMade s keys contents left place stack
  pub tables : AreWaiting s contents left waiting
  pub order : IsInOrder s contents left

-- a step on one table
abbrev pub IsOnOneStep : Step → Type 0
IsOnOneStep (step.Base t) = ⊥
IsOnOneStep (step.Bin n) = ⊥
IsOnOneStep _ = Unit {0}

-- a table is that of the root, whose term ends before a place, with nothing encrypted; and no node of the plan is wide
pub record IsRanTo (s : Setting) (keys : List (List ℕ)) (contents : Contents) (place : ℕ) (held : Held) : Type 0 where
  pub term : Term
  pub gives : node_of s term ≡ Some (root s)
  pub opened : (profile s term).visible_encrypted ≡ 0
  pub stands : IsHeldTo s keys contents place term held
  pub narrow : IsNarrow s contents
