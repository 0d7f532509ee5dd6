-- How a command may end: with which status and which text. docs/FORMATS.md, "Report" and "Statuses", tell it in prose.
use Rattle.std.specs.Prelude.{◌≡◌, ℕ, ◌<◌, List, []}
use Rattle.assign_table.specs.Found.{CostsTooMuch, HasFew, IsLeastPlan, most_cost}
use Rattle.command_input.specs.declared.task.RunTask.{RunTask}
use Rattle.command_input.specs.declared.task.Task.{Task}
use Rattle.command_input.specs.declared.task.Task.TheVariants as task
use Rattle.cost_model.specs.declared.estimated.Estimates.{Estimates}
use Rattle.extended_plan.specs.Parts.{AreClustersOf, AreEstimatesOf, IsPlanOf, setting_by}
use Rattle.extended_plan.specs.Setting.{Setting}
use Rattle.extended_plan.specs.States.{IsFirstTooMany, cost}
use Rattle.extended_plan.specs.Term.{Term}
use Rattle.extended_plan.specs.Validity.{IsValid}
use Rattle.key_clusters.specs.declared.assigned.Clusters.{Clusters}
use Rattle.mq_base.specs.declared.ids.NodeId.{NodeId}
use Rattle.mq_base.specs.declared.plan.Step.{Step}
use Rattle.mq_base.specs.declared.query.Query.{Query}
use Rattle.mq_base.specs.declared.table.PlainTable.{PlainTable}
use Rattle.plan_algebra.specs.declared.plan_facts.PlanFacts.{PlanFacts}
use Rattle.plan_runner.specs.Running.{IsFirstWide, IsNarrow}
use Rattle.row_algebra.specs.Contents.{Contents, contents_of}
use Rattle.run_report.specs.Report.{report, none_report}
use Rattle.planner_cli.specs.declared.status.Status.{Status}
use Rattle.planner_cli.specs.declared.status.Status.TheVariants as status

-- the setting of a task: that of the plan of its query, with the facts, the clusters and the estimates of the plan
pub record IsSettingOf (t : RunTask) (s : Setting) : Type 0 where
  pub facts : PlanFacts
  pub clusters : Clusters
  pub estimates : Estimates
  pub made : s ≡ setting_by t.policy t.prices facts clusters estimates
  pub planned : IsPlanOf t.policy t.query facts
  pub clustered : AreClustersOf t.policy facts clusters
  pub estimated : AreEstimatesOf t.prices facts estimates

-- a plan is found and can be run: its steps spell a valid extended plan, none costs less, its cost is within the range, not too many
-- states are reached, and no node is wide
pub record IsPlanned (s : Setting) (contents : Contents) (steps : List Step) (least : ℕ) : Type 0 where
  pub plan : IsLeastPlan s steps least
  pub within : least < most_cost
  pub few : HasFew s
  pub narrow : IsNarrow s contents

-- there is no valid extended plan, and not too many states are reached
pub record IsUnplanned (s : Setting) : Type 0 where
  pub none : (x : Term) → IsValid s x → ⊥
  pub few : HasFew s

-- there are valid extended plans, each costs too much, and not too many states are reached
pub record IsDear (s : Setting) : Type 0 where
  pub costs : CostsTooMuch s
  pub few : HasFew s

-- there is a valid extended plan whose cost is within the range, not too many states are reached, and node n is the first that is wide
pub record IsOverfull (s : Setting) (contents : Contents) (n : ℕ) : Type 0 where
  pub term : Term
  pub valid : IsValid s term
  pub within : cost s term < most_cost
  pub few : HasFew s
  pub wide : IsFirstWide s contents n

-- how a query over these tables ends under a setting: with which status, and with which text
pub data EndsUnder (s : Setting) (q : Query) (tables : List PlainTable) (end : Status) (text : List ℕ) : Type 0 where
  planned : (steps : List Step) (least : ℕ) → IsPlanned s (contents_of s.policy.schema tables) steps least
      → end ≡ status.Done → text ≡ report s.policy q tables steps least → EndsUnder s q tables end text
  unplanned : IsUnplanned s → end ≡ status.NoPlan → text ≡ none_report → EndsUnder s q tables end text
  crowded : (n : NodeId) → IsFirstTooMany s n.0 → end ≡ status.TooManyStates n → text ≡ [] → EndsUnder s q tables end text
  dear : IsDear s → end ≡ status.CostRange → text ≡ [] → EndsUnder s q tables end text
  wide : (n : NodeId) → IsOverfull s (contents_of s.policy.schema tables) n.0 → end ≡ status.RowRange n → text ≡ []
      → EndsUnder s q tables end text

-- how `run` ends: under the setting of its task
pub record RunEnds (t : RunTask) (end : Status) (text : List ℕ) : Type 0 where
  pub setting : Setting
  pub is : IsSettingOf t setting
  pub ends : EndsUnder setting t.query t.tables end text

-- the ends of each command
abbrev pub Ends : Task → Status → List ℕ → Type 0
Ends (task.Run t) end text = RunEnds t end text

-- two ends of one task have one status
abbrev pub HaveOneStatus : Type 0
HaveOneStatus = (t : Task) (end other : Status) (text other_text : List ℕ) → Ends t end text → Ends t other other_text → end ≡ other
