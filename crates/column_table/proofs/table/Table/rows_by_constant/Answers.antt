use Rattle.std.proofs.Common.{◌≡◌, ◌<◌, None, Some, filter, get_or, length, option_map, sym, ◌∙◌, ap, subst, rules, slice_get}
use Rattle.std.specs.List.{range_with_len}
use Rattle.std.proofs.lemmas.Result.{IfOk-weaker}
use Rattle.column_table.specs.Cells.{Seals, compares_constant, compares_pair}
use Rattle.column_table.specs.Columns.{cell_at, column_at, shown_columns}
use Rattle.column_table.specs.Chosen.{AreChosen, IsSealedBeside}
use Rattle.column_table.specs.inside.Lent.{cell_of}
use Rattle.row_algebra.specs.Tests.{both_pass, passes}
use Rattle.column_table.proofs.ChoiceLaws.{constant_kept, constant_missed, none_chosen}
use Rattle.column_table.proofs.ColumnLaws.{column_is}
use Rattle.column_table.proofs.table.Table.rows_by_constant.Goals as goal

pub returns-in_ok-constant-in-Some-clause-kept : goal.returns-in_ok-constant-in-Some-clause-kept
returns-in_ok-constant-in-Some-clause-kept c =
    let below : c.args.a.0 < length c.args.self.now.columns = search rules in
    let here =
    column_is c.args.self.now.columns c.args.a.0 c.index-self-from.result (Some c.in-Some.column) below
    (sym c.in-Some.is ∙ ap (λ i. get_or c.args.self.now.columns i c.index-self-from.result) c.from.ensures) in
    IfOk-weaker c.rows_by_cell.result
    (λ kept. kept.items ≡ filter (λ row. both_pass (compares_pair c.args.op) (cell_at (shown_columns c.args.self.now.columns) row c.args.a.0)
    (option_map cell_of c.cell_in.result)) (range_with_len 0 c.args.self.now.rows))
    (λ kept. (seals : Seals) → IsSealedBeside seals c.args.key.now c.args.a.0 c.args.x.now (column_at (shown_columns c.args.self.now.columns) c.args.a.0)
    → kept.items ≡ filter (λ row. passes (compares_constant seals c.args.a.0 c.args.op c.args.x.now)
    (cell_at (shown_columns c.args.self.now.columns) row c.args.a.0)) (range_with_len 0 c.args.self.now.rows))
    (λ kept kept_is seals beside. constant_kept seals c.args.key.now c.args.a.0 c.args.op c.args.x.now c.in-Some.column
    (shown_columns c.args.self.now.columns) c.args.self.now.rows (option_map cell_of c.cell_in.result) kept.items here
    (c.cell_in.ensures ∙ ap (λ cells. slice_get cells 0) c.in_ok-constant-in-Some.ensures) beside kept_is)
    c.rows_by_cell.ensures

pub returns-in-None-clause-chosen : goal.returns-in-None-clause-chosen
returns-in-None-clause-chosen c = subst (AreChosen c.args.self.now.rows) (sym c.new.ensures.items) (none_chosen c.args.self.now.rows)

pub returns-in-None-clause-kept : goal.returns-in-None-clause-kept
returns-in-None-clause-kept c seals beside =
    let below : c.args.a.0 < length c.args.self.now.columns = search rules in
    let missing =
    column_is c.args.self.now.columns c.args.a.0 c.index-self-from.result None below
    (sym c.in-None.is ∙ ap (λ i. get_or c.args.self.now.columns i c.index-self-from.result) c.from.ensures) in
    c.new.ensures.items
    ∙ constant_missed seals c.args.a.0 c.args.op c.args.x.now (shown_columns c.args.self.now.columns) c.args.self.now.rows missing
