use Rattle.std.proofs.Common.{◌≡◌, Err, ap, arith, sym, ◌∙◌}
use Rattle.std.proofs.lemmas.Result.{err_from_is_err_and}
use Rattle.extended_plan.specs.Job.{setting_of}
use Rattle.assign_table.specs.declared.table.TableNo.{TableNo}
use Rattle.assign_table.specs.declared.table.TableNo.TheVariants.{Full}
use Rattle.assign_table.specs.inside.Sheet.{sheet_of}
use Rattle.assign_table.proofs.TurnLaws.{crowd-underway, turn-last, turn-more, underway-few, underway-more, underway-smaller, underway-start}
use Rattle.assign_table.proofs.settle.settle_all.Goals as goal

pub turns-init : goal.turns-init
turns-init c =
    underway-start (setting_of c.args.job.now) c.args.node.0 c.args.room c.args.arena.now.items (sheet_of c.args.table.now)
    c.requires.ordered c.requires.known c.requires.within

pub returns-in_err-settle_next-clause-full : goal.returns-in_err-settle_next-clause-full
returns-in_err-settle_next-clause-full c = λ full.
    let p = err_from_is_err_and c.from_residual.result c.from_residual.ensures.1 in
    let is = sym p.1 ∙ full in
    let same : p.0 ≡ Full = cc in
    crowd-underway (setting_of c.args.job.now) c.args.node.0 c.args.room c.args.arena.now.items (sheet_of c.args.table.now)
    c.turns.arena.items (sheet_of c.turns.table) c.turns.invariant
    (c.in_err-settle_next.ensures.full (ap (λ (e : TableNo). Err e) (sym p.2 ∙ same)))

pub returns-then-not-branch-clause-done : goal.returns-then-not-branch-clause-done
returns-then-not-branch-clause-done c =
    turn-last (setting_of c.args.job.now) c.args.node.0 c.args.room c.in_ok-settle_next.field-0 c.args.arena.now.items
    (sheet_of c.args.table.now) c.turns.arena.items c.settle_next.new.arena.items (sheet_of c.turns.table) (sheet_of c.settle_next.new.table)
    c.if-not-branch.true c.in_ok-settle_next.ensures.turn c.turns.invariant

pub turns-smaller : goal.turns-smaller
turns-smaller c =
    underway-smaller (setting_of c.args.job.now) c.args.node.0 c.args.room c.args.arena.now.items (sheet_of c.args.table.now)
    c.turns.arena.items (sheet_of c.turns.table) c.settle_next.new.arena.items (sheet_of c.settle_next.new.table) c.turns.invariant
    (turn-more (setting_of c.args.job.now) c.args.node.0 c.args.room c.in_ok-settle_next.field-0 c.turns.arena.items
    c.settle_next.new.arena.items (sheet_of c.turns.table) (sheet_of c.settle_next.new.table) c.if-not-branch.false
    c.in_ok-settle_next.ensures.turn)

pub turns-preserved : goal.turns-preserved
turns-preserved c =
    underway-more (setting_of c.args.job.now) c.args.node.0 c.args.room c.args.arena.now.items (sheet_of c.args.table.now)
    c.turns.arena.items (sheet_of c.turns.table) c.settle_next.new.arena.items (sheet_of c.settle_next.new.table) c.turns.invariant
    (turn-more (setting_of c.args.job.now) c.args.node.0 c.args.room c.in_ok-settle_next.field-0 c.turns.arena.items
    c.settle_next.new.arena.items (sheet_of c.turns.table) (sheet_of c.settle_next.new.table) c.if-not-branch.false
    c.in_ok-settle_next.ensures.turn)

pub settle_next-requires-clause-few : goal.settle_next-requires-clause-few
settle_next-requires-clause-few c =
    omega (
      arith,
      c.requires.few,
      underway-few (setting_of c.args.job.now) c.args.node.0 c.args.room c.args.arena.now.items
          (sheet_of c.args.table.now) c.turns.arena.items (sheet_of c.turns.table) c.turns.invariant,
    )
