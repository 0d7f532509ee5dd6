use Rattle.std.proofs.Common.{ℕ, ◌++◌, ◌∷◌, [], map, sym, ◌∙◌, ap, arith}
use Rattle.std.specs.List.{range_with_len}
use Rattle.std.proofs.lemmas.List.FromFn.{map-range_with_len_more}
use Rattle.plan_runner.specs.inside.Shown.{plain_items, row_of}
use Rattle.plan_runner.proofs.ShownLaws.{all_read}
use Rattle.plan_runner.proofs.rows.rows_of.Goals as goal

pub loop-row-preserved : goal.loop-row-preserved
loop-row-preserved c =
    let values = λ (row : ℕ). plain_items c.args.items.now (row_of c.args.held.now row) in
    c.in_ok-push.ensures.items
    ∙ ap (λ rows. rows ++ c.in_ok-row_of.field-0 ∷ []) c.loop-row.invariant
    ∙ ap (λ row. map values (range_with_len 0 c.loop-row.row) ++ row ∷ []) c.in_ok-row_of.ensures
    ∙ sym (map-range_with_len_more values 0 c.loop-row.row c.loop-row.row (omega arith))

pub returns : goal.returns
returns c =
    c.loop-row.invariant
    ∙ all_read c.args.held.now c.args.items.now c.loop-row.row (omega (arith, c.rows-row-end.ensures.number))
