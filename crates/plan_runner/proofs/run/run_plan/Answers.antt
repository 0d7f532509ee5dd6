use Rattle.std.proofs.Common.{All, length, map, sym, ◌∙◌, ap, subst}
use Rattle.mq_base.specs.Small.{IsSmallItem}
use Rattle.provider_engine.specs.Held.{table_of}
use Rattle.plan_runner.specs.declared.stop.RunStop.TheVariants.{RowRange}
use Rattle.plan_runner.specs.inside.Given.{TableHasBytes}
use Rattle.plan_runner.specs.inside.Shown.{plain_items}
use Rattle.plan_runner.proofs.RunLaws.{IsGivenTo, job_runs, ran_rows, run_starts}
use Rattle.plan_runner.proofs.SmallLaws.{items_small}
use Rattle.plan_runner.proofs.StepLaws.{same_error}
use Rattle.plan_runner.proofs.run.run_plan.Goals as goal

pub run_steps-requires : goal.run_steps-requires
run_steps-requires c =
    let given : IsGivenTo c.args.job.now c.args.seed.now c.of-keys.result.keys c.args.tables = record {
      accepted = c.requires.accepted;
      bound = c.requires.bound;
      listed = c.requires.listed;
      form = c.requires.form;
      constants = c.constants_have_bytes.ensures;
      bytes = subst (All TableHasBytes) c.as_slice.ensures c.tables_have_bytes.ensures;
      shared = c.compared_share_keys.ensures;
      keys_are = c.of-keys.ensures;
    } in (
      job_runs c.args.job.now c.args.seed.now c.of-keys.result.keys c.args.tables given,
      (c.requires.few, run_starts c.args.job.now c.args.seed.now c.of-keys.result.keys c.args.tables given c.args.steps.now c.requires.spelt),
    )

pub rows_of-requires : goal.rows_of-requires
rows_of-requires c =
    subst (All IsSmallItem) (sym c.as_slice-2.ensures)
    (items_small c.args.job.now.policy.now.schema c.args.job.now.query.now c.requires.accepted.schema c.requires.bound)

pub returns-in_err-root-clause-range : goal.returns-in_err-root-clause-range
returns-in_err-root-clause-range c n stopped =
    c.in_err-root.ensures.range n (same_error _ c.from_residual.result c.in_err-root.field-0.0 (RowRange n) stopped c.from_residual.ensures.1)

pub returns-clause-rows : goal.returns-clause-rows
returns-clause-rows c =
    let given : IsGivenTo c.args.job.now c.args.seed.now c.of-keys.result.keys c.args.tables = record {
      accepted = c.requires.accepted;
      bound = c.requires.bound;
      listed = c.requires.listed;
      form = c.requires.form;
      constants = c.constants_have_bytes.ensures;
      bytes = subst (All TableHasBytes) c.as_slice.ensures c.tables_have_bytes.ensures;
      shared = c.compared_share_keys.ensures;
      keys_are = c.of-keys.ensures;
    } in
    c.in_ok-rows_of.ensures
    ∙ ap (λ items. map (plain_items items) (table_of c.in_ok-root.root)) c.as_slice-2.ensures
    ∙ ran_rows c.args.job.now c.args.seed.now c.of-keys.result.keys c.args.tables given c.requires.means (length c.args.steps.now) c.requires.few
    c.in_ok-root.root c.in_ok-root.ensures.ran
