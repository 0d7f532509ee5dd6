use Rattle.std.proofs.Common.{Some, None, sym, ◌∙◌, ap, if◌then◌else◌}
use Rattle.std.proofs.lemmas.Bool.{eq-eqb, eqb-true, false_from_ne_true}
use Rattle.assign_table.proofs.QueueLaws.{fresh-there}
use Rattle.assign_table.proofs.table.Table.current.Goals as goal

pub returns-then-cell-waiting : goal.returns-then-cell-waiting
returns-then-cell-waiting c =
    sym (fresh-there c.args.self.now.cells.entries (record { 0 = c.args.waiting.now }) c.in_ok-state.state.now c.in_ok-state.cell.now
    (sym c.in_ok-state.ensures.entry) c.in_ok-state.ensures.value
    ∙ ap (λ b. if b then Some (record { state = c.in_ok-state.state.now; label = c.in_ok-state.cell.now.label; way = c.in_ok-state.cell.now.way }) else None)
    (eq-eqb _ _ c.if-cell-waiting.true))

pub returns-else-cell-waiting : goal.returns-else-cell-waiting
returns-else-cell-waiting c =
    sym (fresh-there c.args.self.now.cells.entries (record { 0 = c.args.waiting.now }) c.in_ok-state.state.now c.in_ok-state.cell.now
    (sym c.in_ok-state.ensures.entry) c.in_ok-state.ensures.value
    ∙ ap (λ b. if b then Some (record { state = c.in_ok-state.state.now; label = c.in_ok-state.cell.now.label; way = c.in_ok-state.cell.now.way }) else None)
    (false_from_ne_true _ (λ same. c.if-cell-waiting.false (eqb-true _ _ same))))
