use Rattle.std.proofs.Common.{◌∙◌, ◌<◌, ap, length, map, slice_get, sym}
use Rattle.std.proofs.lemmas.List.Elements.{All-same}
use Rattle.std.proofs.lemmas.Result.{IfOk-weaker}
use Rattle.column_table.specs.Columns.{shown}
use Rattle.column_table.specs.Groups.{folded_at}
use Rattle.column_table.proofs.FoldRows.{made_at_rows}
use Rattle.column_table.proofs.fold.folded_column.Goals as goal

pub returns-in_ok-rows-in-Min : goal.returns-in_ok-rows-in-Min
returns-in_ok-rows-in-Min c =
    IfOk-weaker c.take_column.result _ _
    (λ made is.
    made_at_rows (folded_at c.args.func (shown c.args.column.now).cells) c.args.groups.now (shown c.args.column.now) (shown made)
    c.as_slice.result.now
    (All-same (λ row. row < length (shown c.args.column.now).cells) c.as_slice.result.now c.in_ok-rows-in-Min.rows.items c.as_slice.ensures.value
    c.in_ok-rows-in-Min.ensures.within)
    (ap (map (slice_get (shown c.args.column.now).cells)) c.as_slice.ensures.value ∙ c.in_ok-rows-in-Min.ensures.cells
    ∙ (λ i. map (folded_at (sym c.in-Min.is i) (shown c.args.column.now).cells) c.args.groups.now))
    is) c.take_column.ensures

pub returns-in_ok-rows-in-Max : goal.returns-in_ok-rows-in-Max
returns-in_ok-rows-in-Max c =
    IfOk-weaker c.take_column-in-Max.result _ _
    (λ made is.
    made_at_rows (folded_at c.args.func (shown c.args.column.now).cells) c.args.groups.now (shown c.args.column.now) (shown made)
    c.as_slice-in-Max.result.now
    (All-same (λ row. row < length (shown c.args.column.now).cells) c.as_slice-in-Max.result.now c.in_ok-rows-in-Max.rows.items c.as_slice-in-Max.ensures.value
    c.in_ok-rows-in-Max.ensures.within)
    (ap (map (slice_get (shown c.args.column.now).cells)) c.as_slice-in-Max.ensures.value ∙ c.in_ok-rows-in-Max.ensures.cells
    ∙ (λ i. map (folded_at (sym c.in-Max.is i) (shown c.args.column.now).cells) c.args.groups.now))
    is) c.take_column-in-Max.ensures
