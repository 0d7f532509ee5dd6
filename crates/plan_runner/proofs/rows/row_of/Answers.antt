use Rattle.std.proofs.Common.{◌++◌, take, sym, ◌∙◌, ap, arith}
use Rattle.std.specs.Prelude.{filter_map, option_to_list}
use Rattle.plan_runner.specs.inside.Shown.{plain_item, row_of}
use Rattle.plan_runner.proofs.ShownLaws.{items_more}
use Rattle.plan_runner.proofs.rows.row_of.Goals as goal

pub loop-item-preserved : goal.loop-item-preserved
loop-item-preserved c =
    let value = plain_item (row_of c.args.held.now c.args.row) in
    c.in_ok-push_some.ensures
    ∙ ap (λ values. values ++ option_to_list c.in_ok-value_of.field-0) c.loop-item.invariant
    ∙ ap (λ o. filter_map value (take c.loop-item.item-index c.args.items.now) ++ option_to_list o) c.in_ok-value_of.ensures
    ∙ sym (items_more value c.args.items.now c.loop-item.item-index _ (omega arith))
