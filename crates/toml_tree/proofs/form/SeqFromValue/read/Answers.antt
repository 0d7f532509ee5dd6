use Rattle.std.proofs.Common.{◌∙◌}
use Rattle.std.proofs.lemmas.Result.{err_from_is_err_and}
use Rattle.toml.specs.View.{view, items_view}
use Rattle.toml_tree.specs.Form.{items_as}
use Rattle.toml_tree.proofs.FormLaws.{items_start, items_more, items_stop, items_end, reads_error}
use Rattle.toml_tree.proofs.form.SeqFromValue.read.Goals as goal

pub loop-item-init : goal.loop-item-init
loop-item-init g c = rw c.new-list.ensures.items (items_start g.T.FromValue.from_data c.deref-item-items.result.now)

pub loop-item-preserved : goal.loop-item-preserved
loop-item-preserved g c =
    let step = items_more g.T.FromValue.from_data c.loop-item.list.items c.deref-item-items.result.now c.loop-item.item-index
    c.item-item.result c.in_ok-read.field-0 c.loop-item-test.true c.item-item.is c.in_ok-read.ensures in
    rw c.in_ok-push.ensures.items (c.loop-item.invariant ∙ step)

pub returns-in_err-read : goal.returns-in_err-read
returns-in_err-read g c =
    let p = err_from_is_err_and c.from_residual.result c.from_residual.ensures.1 in
    rw (p.1, p.2, ← c.in-Some.ensures, ← c.deref-item-items.ensures.value)
    (reads_error c.in_err-read.field-0.0 (g.T.FromValue.from_data (view c.item-item.result))
    (items_as g.T.FromValue.from_data (items_view c.deref-item-items.result.now)) c.in_err-read.ensures
    (λ none. c.loop-item.invariant ∙ items_stop g.T.FromValue.from_data c.loop-item.list.items c.deref-item-items.result.now
    c.loop-item.item-index c.item-item.result c.loop-item-test.true c.item-item.is none))

pub returns : goal.returns
returns g c =
    rw (← c.in-Some.ensures, ← c.deref-item-items.ensures.value, c.of.ensures)
    (c.loop-item.invariant ∙ items_end g.T.FromValue.from_data c.loop-item.list.items c.deref-item-items.result.now
    c.loop-item.item-index c.loop-item-test.false)
