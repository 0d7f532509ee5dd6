use Rattle.std.proofs.Common.{◌≡◌, Err, ap, sym, ◌∙◌}
use Rattle.std.proofs.lemmas.Result.{err_from_is_err_and}
use Rattle.extended_plan.specs.Job.{setting_of}
use Rattle.assign_table.specs.declared.table.TableNo.{TableNo}
use Rattle.assign_table.specs.declared.table.TableNo.TheVariants.{Full}
use Rattle.assign_table.specs.inside.Sheet.{sheet_of}
use Rattle.assign_table.proofs.SheetLaws.{cell_with}
use Rattle.assign_table.proofs.TurnLaws.{crowd-turned, turned}
use Rattle.assign_table.proofs.settle.settle_next.Goals as goal

pub offer_steps-requires-clause-held : goal.offer_steps-requires-clause-held
offer_steps-requires-clause-held c =
    c.requires.known c.in-Some.taken.settled.state (cell_with c.in-Some.taken.settled.label c.in-Some.taken.settled.way) c.in-Some.ensures.taken.listed

pub returns-in_err-offer_steps-clause-full : goal.returns-in_err-offer_steps-clause-full
returns-in_err-offer_steps-clause-full c = λ full.
    let p = err_from_is_err_and c.from_residual-in_err-offer_steps.result c.from_residual-in_err-offer_steps.ensures.1 in
    let is = sym p.1 ∙ full in
    let same : p.0 ≡ Full = cc in
    crowd-turned (setting_of c.args.job.now) c.args.node.0 c.args.room c.len-at.result c.args.arena.now.items (sheet_of c.args.table.now)
    (sheet_of c.take.new.self) c.in-Some.taken.settled (c.len-at.ensures ∙ c.args.arena.now.ok.0) c.in-Some.ensures.taken
    (c.in_err-offer_steps.ensures.full (ap (λ (e : TableNo). Err e) (sym p.2 ∙ same)))

pub returns-clause-turn : goal.returns-clause-turn
returns-clause-turn c =
    turned (setting_of c.args.job.now) c.args.node.0 c.args.room c.len-at.result c.args.arena.now.items c.push.new.self.items
    (sheet_of c.args.table.now) (sheet_of c.take.new.self) (sheet_of c.offer_steps.new.table) c.in-Some.taken.settled
    (c.len-at.ensures ∙ c.args.arena.now.ok.0) c.in-Some.ensures.taken c.in_ok-push.ensures.items c.in_ok-offer_steps.ensures.continues
    c.in_ok-offer_steps.ensures.closed
