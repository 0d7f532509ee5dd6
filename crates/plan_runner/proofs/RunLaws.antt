-- What is known of a run before its first step and after its last one, and of the job, its keys and its tables.
use Rattle.std.proofs.Common.{◌≡◌, ℕ, ◌^◌, ◌<◌, ◌≤◌, List, [], ◌∷◌, length, map, All, sym, ◌∙◌, ap, subst, arith}
use Rattle.std.specs.List.{AllByRecursion, range_with_len}
use Rattle.mq_base.specs.BoundQuery.{IsBound}
use Rattle.mq_base.specs.Table.{HasForm}
use Rattle.mq_base.specs.declared.plan.Step.{Step}
use Rattle.mq_base.specs.declared.table.PlainTable.{PlainTable}
use Rattle.key_clusters.specs.Keys.{key_at}
use Rattle.key_clusters.specs.Laws.{IfPair, ShareKey}
use Rattle.plan_algebra.specs.Facts.{node_at}
use Rattle.plan_algebra.specs.Meaning.{MeansQuery}
use Rattle.policy_base.specs.Accepted.{IsAccepted}
use Rattle.extended_plan.proofs.ListLaws.{outcomes_exact}
use Rattle.extended_plan.specs.declared.job.Job.{Job}
use Rattle.extended_plan.specs.Job.{setting_of}
use Rattle.extended_plan.specs.Ready.{IsReady}
use Rattle.extended_plan.specs.Setting.{Setting}
use Rattle.extended_plan.specs.StepList.{steps_outcome, totals_of}
use Rattle.provider_engine.proofs.BoundLaws as bound_laws
use Rattle.provider_engine.proofs.KeyLaws as key_laws
use Rattle.provider_engine.specs.declared.held.Held.{Held}
use Rattle.provider_engine.specs.Decoding.{IsRun}
use Rattle.provider_engine.specs.Held.{table_of}
use Rattle.provider_engine.specs.Typed.{AreTyped, HasByteConstants}
use Rattle.row_algebra.proofs.ContentLaws.{contents_form, contents_own}
use Rattle.row_algebra.specs.Contents.{Contents, contents_of}
use Rattle.row_algebra.specs.Meaning.{query_rows}
use Rattle.plan_runner.proofs.ContentLaws.{contents_bytes, tables_given}
use Rattle.plan_runner.proofs.GoesLaws.{last_of}
use Rattle.plan_runner.proofs.OrderLaws.{all_narrow, plan_in_order}
use Rattle.plan_runner.proofs.ReadLaws.{root_rows}
use Rattle.plan_runner.proofs.SmallLaws.{items_small}
use Rattle.plan_runner.proofs.TableLaws.{plan_takes}
use Rattle.plan_runner.specs.inside.Given.{TableHasBytes}
use Rattle.plan_runner.specs.inside.Order.{taken}
use Rattle.plan_runner.specs.inside.Shown.{plain_items}
use Rattle.plan_runner.specs.inside.Stack.{AreHeldTo}
use Rattle.plan_runner.specs.inside.UnderWay.{AreMade, IsInOrder, IsRanTo, IsUnderWay}
use Rattle.plan_runner.specs.Running.{IsSpelt}

-- what is given to a run: a job of a bound query, whose constants and tables are of bytes, the keys of its clusters, and its query's tables
pub record IsGivenTo (job : Job) (seed : List ℕ) (keys : List (List ℕ)) (tables : List PlainTable) : Type 0 where
  pub accepted : IsAccepted job.policy.now
  pub bound : IsBound job.policy.now.schema job.query.now
  pub listed : map (λ (table : PlainTable). table.table) tables ≡ job.query.now.tables
  pub form : AllByRecursion (HasForm job.policy.now.schema) tables
  pub constants : HasByteConstants job.query.now
  pub bytes : All TableHasBytes tables
  pub shared : (n : ℕ) → n < length job.facts.plan.nodes → IfPair (node_at job.facts.plan.nodes n).op (ShareKey job.facts job.policy.now.ceiling seed)
  pub keys_are : keys ≡ map (key_at seed job.clusters) (range_with_len 0 64)

-- the cells of its run decode
pub job_runs : (job : Job) (seed : List ℕ) (keys : List (List ℕ)) (tables : List PlainTable) → IsGivenTo job seed keys tables
    → IsRun (setting_of job) keys (contents_of job.policy.now.schema tables)
job_runs job seed keys tables given = record {
  ready = job.ready;
  typed =
      subst (AreTyped job.policy.now.schema) (sym job.planned)
      (bound_laws.plans_are_typed job.policy.now.schema job.query.now given.bound given.constants);
  few_attributes = given.accepted.schema.few_attributes;
  keyed = λ n below. key_laws.seals_are_shared (setting_of job) job.ready job.facts job.policy.now.ceiling seed keys
      job.clustered.cluster job.clustered.scheme given.keys_are n below
      (given.shared n below);
  form = contents_form job.policy.now.schema tables given.form;
  bytes = contents_bytes job.policy.now.schema tables given.bytes;
}

-- ---- the first step

starts : (s : Setting) → IsReady s → (keys : List (List ℕ)) (contents : Contents) (steps : List Step) → (spelt : IsSpelt s steps)
    → AreMade s keys contents steps 0 []
starts s ready keys contents steps spelt = record {
  terms = [];
  held = tt;
  totals = totals_of s spelt.term;
  goes = ap (steps_outcome s) (sym spelt.spelt) ∙ (outcomes_exact s).accepted spelt.term spelt.valid;
}

pub run_starts : (job : Job) (seed : List ℕ) (keys : List (List ℕ)) (tables : List PlainTable) → IsGivenTo job seed keys tables
    → (steps : List Step) → IsSpelt (setting_of job) steps
    → IsUnderWay (setting_of job) keys (contents_of job.policy.now.schema tables) steps 0 tables []
run_starts job seed keys tables given steps spelt = record {
  made = starts (setting_of job) job.ready keys (contents_of job.policy.now.schema tables) steps spelt;
  tables = record {
    takes =
        ap taken (sym spelt.spelt)
        ∙ plan_takes (setting_of job) job.ready job.query.now given.bound job.planned spelt.term spelt.valid.stands.gives
        ∙ sym given.listed;
    given = tables_given (setting_of job) given.accepted.schema job.query.now.tables tables given.bound.once given.listed given.form;
  };
  order =
      subst (IsInOrder (setting_of job) (contents_of job.policy.now.schema tables)) spelt.spelt
      (plan_in_order (setting_of job) (contents_of job.policy.now.schema tables) job.ready spelt.term spelt.valid.stands.gives);
}

-- ---- after the last one

-- a table is left
pub end_there : (s : Setting) (keys : List (List ℕ)) (contents : Contents) (place : ℕ) (waiting : List PlainTable) (stack : List Held)
    → IsUnderWay s keys contents [] place waiting stack → 1 ≤ length stack
end_there s keys contents place waiting (held ∷ stack) under = omega arith
end_there s keys contents place waiting [] under =
    let last = last_of s under.made.terms place under.made.totals under.made.goes in
    absurd (subst (λ terms. AreHeldTo s keys contents place terms []) last.only under.made.held)

-- which is the root's
pub end_ran : (s : Setting) (keys : List (List ℕ)) (contents : Contents) (place : ℕ) (waiting : List PlainTable) (held : Held) (stack : List Held)
    → IsUnderWay s keys contents [] place waiting (held ∷ stack) → IsRanTo s keys contents place held
end_ran s keys contents place waiting held stack under =
    let last = last_of s under.made.terms place under.made.totals under.made.goes in
    let stands : AreHeldTo s keys contents place (last.term ∷ []) (held ∷ stack) =
    subst (λ terms. AreHeldTo s keys contents place terms (held ∷ stack)) last.only under.made.held in
    record {
      term = last.term;
      gives = last.gives;
      opened = last.opened;
      stands = stands.0;
      narrow = all_narrow s contents under.order;
    }

-- and shows the rows that the query asks for
pub ran_rows : (job : Job) (seed : List ℕ) (keys : List (List ℕ)) (tables : List PlainTable) → IsGivenTo job seed keys tables
    → MeansQuery job.policy.now.schema job.query.now job.facts.plan → (place : ℕ) → place < 2 ^ 32 → (held : Held)
    → IsRanTo (setting_of job) keys (contents_of job.policy.now.schema tables) place held
    → map (plain_items job.query.now.items) (table_of held) ≡ query_rows (contents_of job.policy.now.schema tables) job.query.now
ran_rows job seed keys tables given means place few held ran =
    root_rows (setting_of job) keys (contents_of job.policy.now.schema tables) (job_runs job seed keys tables given) place few held ran
    job.query.now.items (items_small job.policy.now.schema job.query.now given.accepted.schema given.bound)
    ∙ means (contents_of job.policy.now.schema tables) (contents_own job.policy.now.schema tables)
