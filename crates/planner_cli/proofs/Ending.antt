-- The end of a command `run`, from what the search and the run of a plan answer.
use Rattle.std.proofs.Common.{◌≡◌, ℕ, ◌<◌, List, [], ◌++◌, Result, Ok, Err, IfOk, refl, ap, ◌∙◌, subst}
use Rattle.assign_table.specs.Found.{HasFew, IsLeastPlan, most_cost}
use Rattle.command_input.specs.declared.task.RunTask.{RunTask}
use Rattle.extended_plan.specs.declared.job.Job.{Job}
use Rattle.extended_plan.specs.Job.{IsJobOf, setting_of}
use Rattle.extended_plan.specs.Parts.{AreClustersOf, AreEstimatesOf, IsPlanOf, setting_by}
use Rattle.extended_plan.specs.Setting.{Setting}
use Rattle.mq_base.specs.declared.ids.NodeId.{NodeId}
use Rattle.mq_base.specs.declared.memory.NoMemory.{NoMemory}
use Rattle.mq_base.specs.declared.plan.Step.{Step}
use Rattle.mq_base.specs.declared.query.Query.{Query}
use Rattle.mq_base.specs.declared.table.PlainTable.{PlainTable}
use Rattle.mq_base.specs.declared.value.Value.{Value}
use Rattle.plan_runner.specs.Running.{IsFirstWide, IsNarrow}
use Rattle.policy_base.specs.declared.policy.Policy.{Policy}
use Rattle.policy_base.specs.declared.prices.Prices.{Prices}
use Rattle.row_algebra.specs.Contents.{contents_of}
use Rattle.row_algebra.specs.Meaning.{query_rows}
use Rattle.run_report.specs.Answer.{answer_under}
use Rattle.run_report.specs.Names.{item_names}
use Rattle.run_report.specs.PlanLine.{plan_line}
use Rattle.run_report.specs.Report.{cost_line}
use Rattle.planner_cli.specs.declared.ends.End.{End}
use Rattle.planner_cli.specs.declared.status.Status.{Status}
use Rattle.planner_cli.specs.declared.status.Status.TheVariants as status
use Rattle.planner_cli.specs.Ends.{EndsUnder, IsSettingOf, RunEnds, planned, wide}

-- a least plan was run to its end, and its rows are written
pub ends_planned : (s : Setting) (q : Query) (tables : List PlainTable) (steps : List Step) (least : ℕ) (rows : List (List Value)) (text : List ℕ)
    → IsLeastPlan s steps least → least < most_cost → HasFew s → IsNarrow s (contents_of s.policy.schema tables)
    → rows ≡ query_rows (contents_of s.policy.schema tables) q
    → text ≡ cost_line least ++ plan_line s.policy steps ++ answer_under (item_names s.policy.schema q.items) rows
    → EndsUnder s q tables status.Done text
ends_planned s q tables steps least rows text plan within few narrow rows_are text_is =
    planned steps least (record { plan = plan; within = within; few = few; narrow = narrow }) refl
    (text_is ∙ ap (λ (rs : List (List Value)). cost_line least ++ plan_line s.policy steps ++ answer_under (item_names s.policy.schema q.items) rs)
    rows_are)

-- a least plan was not run, since a node has too many rows
pub ends_wide : (s : Setting) (q : Query) (tables : List PlainTable) (steps : List Step) (least : ℕ) (n : NodeId) (end : Status) (text : List ℕ)
    → IsLeastPlan s steps least → least < most_cost → HasFew s → IsFirstWide s (contents_of s.policy.schema tables) n.0
    → end ≡ status.RowRange n → text ≡ [] → EndsUnder s q tables end text
ends_wide s q tables steps least n end text plan within few first is text_is =
    wide n (record {
      term = plan.term;
      valid = plan.valid;
      within = rw plan.costs within;
      few = few;
      wide = first;
    }) is text_is

-- the job of a task has its setting
job_setting : (t : RunTask) (job : Job) → IsJobOf t.policy t.prices t.query job → IsSettingOf t (setting_of job)
job_setting t job is = record {
  facts = job.facts;
  clusters = job.clusters;
  estimates = job.estimates;
  made = ap (λ (p : Policy). setting_by p job.prices.now job.facts job.clusters job.estimates) is.policy
      ∙ ap (λ (stated : Prices). setting_by t.policy stated job.facts job.clusters job.estimates) is.prices;
  planned = subst (λ (q : Query). IsPlanOf t.policy q job.facts) is.query
      (subst (λ (p : Policy). IsPlanOf p job.query.now job.facts) is.policy job.planned);
  clustered = subst (λ (p : Policy). AreClustersOf p job.facts job.clusters) is.policy job.clustered;
  estimated = subst (λ (stated : Prices). AreEstimatesOf stated job.facts job.estimates) is.prices job.estimated;
}

-- what ends under the setting of the job ends the task
pub job_ends : (t : RunTask) (job : Job) (answer : Result End NoMemory) → IsJobOf t.policy t.prices t.query job
    → IfOk answer (λ (end : End). EndsUnder (setting_of job) job.query.now t.tables end.status end.text.items)
    → IfOk answer (λ (end : End). RunEnds t end.status end.text.items)
job_ends t job (Ok end) is ends = record {
  setting = setting_of job;
  is = job_setting t job is;
  ends = subst (λ (q : Query). EndsUnder (setting_of job) q t.tables end.status end.text.items) is.query ends;
}
job_ends t job (Err wanting) is ends = tt
