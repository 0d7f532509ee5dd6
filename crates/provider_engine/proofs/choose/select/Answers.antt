use Rattle.std.proofs.Common.{◌≡◌, ◌∙◌, map, arith}
use Rattle.std.proofs.lemmas.Result.{IfOk-weaker}
use Rattle.key_clusters.specs.declared.assigned.Clusters.{Clusters}
use Rattle.plan_algebra.specs.Tree.{apply_one}
use Rattle.column_table.specs.Cells.{cell_tests}
use Rattle.column_table.specs.Columns.{row_at, shown_columns}
use Rattle.column_table.specs.Tables.{rows_of}
use Rattle.provider_engine.specs.Opening.{seals_of}
use Rattle.provider_engine.specs.inside.Choosing.{AreSealedUnder}
use Rattle.column_table.proofs.ChoiceLaws.{chosen_few, chosen_within}
use Rattle.provider_engine.proofs.SelectionLaws.{selected}
use Rattle.provider_engine.proofs.choose.select.Goals as goal

pub take_rows-requires-clause-few : goal.take_rows-requires-clause-few
take_rows-requires-clause-few c =
    let few = chosen_few c.args.table.now.rows c.in_ok-kept.kept.items c.in_ok-kept.ensures.chosen in
    let below = c.args.table.now.few in
    rw (c.deref.ensures.value) (omega (arith, few, below))

pub take_rows-requires-clause-within : goal.take_rows-requires-clause-within
take_rows-requires-clause-within c =
    rw (c.deref.ensures.value) (chosen_within c.args.table.now.rows c.in_ok-kept.kept.items c.in_ok-kept.ensures.chosen)

pub returns-clause-rows : goal.returns-clause-rows
returns-clause-rows c =
    IfOk-weaker c.take_rows.result
    (λ made. rows_of made ≡ map (row_at (shown_columns c.args.table.now.columns) c.args.table.now.counts) c.deref.result.now)
    (λ made. (clusters : Clusters) → AreSealedUnder clusters (shown_columns c.args.table.now.columns) c.args.op.now
    → rows_of made ≡ apply_one (cell_tests (seals_of clusters c.args.keys.now.keys)) c.args.op.now (rows_of c.args.table.now))
    (λ made taken clusters sealed. selected (cell_tests (seals_of clusters c.args.keys.now.keys)) c.args.op.now
    (shown_columns c.args.table.now.columns) c.args.table.now.counts c.args.table.now.rows c.deref.result.now (rows_of made) c.requires
    (c.deref.ensures.value ∙ c.in_ok-kept.ensures.kept clusters sealed) taken)
    c.take_rows.ensures.rows
