use Rattle.std.proofs.Common.{◌≡◌, [], ap, filter, get_or}
use Rattle.std.specs.List.{range_with_len}
use Rattle.std.proofs.lemmas.Result.{IfOk-weaker}
use Rattle.key_clusters.specs.declared.assigned.Clusters.{Clusters}
use Rattle.column_table.specs.Cells.{Seals, cell_tests, compares_constant}
use Rattle.column_table.specs.Columns.{cell_at, column_at, row_at, shown_columns}
use Rattle.provider_engine.specs.Opening.{seals_of}
use Rattle.provider_engine.specs.inside.Choosing.{AreSealedUnder, keeps}
use Rattle.column_table.specs.Chosen.{IsSealedBeside}
use Rattle.row_algebra.specs.Tests.{passes}
use Rattle.provider_engine.proofs.SelectionLaws.{chosen_by_constant}
use Rattle.provider_engine.proofs.choose.chosen.Goals as goal

pub returns-in-SelConst-clause-kept : goal.returns-in-SelConst-clause-kept
returns-in-SelConst-clause-kept c =
    IfOk-weaker c.rows_by_constant.result
    (λ kept. (seals : Seals) → IsSealedBeside seals (get_or c.args.keys.now.keys c.from.result _) c.in-SelConst.a.0 c.in-SelConst.x
    (column_at (shown_columns c.args.table.now.columns) c.in-SelConst.a.0)
    → kept.items ≡ filter (λ row. passes (compares_constant seals c.in-SelConst.a.0 c.in-SelConst.cmp c.in-SelConst.x)
    (cell_at (shown_columns c.args.table.now.columns) row c.in-SelConst.a.0)) (range_with_len 0 c.args.table.now.rows))
    (λ kept. (clusters : Clusters) → AreSealedUnder clusters (shown_columns c.args.table.now.columns) c.args.op.now
    → kept.items ≡ filter (λ row. keeps (cell_tests (seals_of clusters c.args.keys.now.keys)) c.args.op.now
    (row_at (shown_columns c.args.table.now.columns) c.args.table.now.counts row)) (range_with_len 0 c.args.table.now.rows))
    (λ kept made clusters. chosen_by_constant clusters c.args.keys.now.keys (shown_columns c.args.table.now.columns) c.args.table.now.counts
    c.args.table.now.rows c.args.op.now c.in-SelConst.a c.in-SelConst.cmp c.in-SelConst.x _ kept.items c.in-SelConst.is
    (ap (λ i. get_or c.args.keys.now.keys i []) c.from.ensures) made)
    c.rows_by_constant.ensures.kept
