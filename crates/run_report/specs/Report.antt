-- What a command `run` writes for its task. docs/FORMATS.md, "Report", tells it in prose.
use Rattle.std.specs.Prelude.{ℕ, List, [], ◌∷◌, ◌++◌, codes, decimal}
use Rattle.mq_base.specs.declared.plan.Step.{Step}
use Rattle.mq_base.specs.declared.query.Query.{Query}
use Rattle.mq_base.specs.declared.table.PlainTable.{PlainTable}
use Rattle.policy_base.specs.declared.policy.Policy.{Policy}
use Rattle.run_report.specs.Answer.{answer_part}
use Rattle.run_report.specs.PlanLine.{plan_line}

-- the cost line
abbrev pub cost_line : ℕ → List ℕ
cost_line cost = codes "cost " ++ decimal cost ++ 10 ∷ []

-- the report of a plan of these steps and this cost: the cost, the steps, and the answer
abbrev pub report : Policy → Query → List PlainTable → List Step → ℕ → List ℕ
report p q tables steps cost = cost_line cost ++ plan_line p steps ++ answer_part p.schema q tables

-- the report where there is no plan
abbrev pub none_report : List ℕ
none_report = codes "cost none" ++ 10 ∷ []
