use Rattle.mq_base.specs.declared.table.Scheme.TheVariants.{Rnd, Det, Ope}
use Rattle.provider_engine.proofs.SealRows.{locked_is}
use Rattle.provider_engine.proofs.seal.lock_column.Goals as goal

pub returns-in-Ok-clause-locked : goal.returns-in-Ok-clause-locked
returns-in-Ok-clause-locked c =
    locked_is c.args.scheme Rnd c.args.key.now c.args.place c.args.column.ty c.in-Ok.locked.ty c.args.column.cells c.in-Ok.locked.cells
    c.in-Rnd.is c.in-Ok.ensures.typed c.in-Ok.ensures.sealed c.in-Ok.ensures.opens

pub returns-in-Ok-lock-clause-locked : goal.returns-in-Ok-lock-clause-locked
returns-in-Ok-lock-clause-locked c =
    locked_is c.args.scheme Det c.args.key.now c.args.place c.args.column.ty c.in-Ok-lock.locked.ty c.args.column.cells
    c.in-Ok-lock.locked.cells c.in-Det.is c.in-Ok-lock.ensures.typed c.in-Ok-lock.ensures.sealed c.in-Ok-lock.ensures.opens

pub returns-in-Ok-lock-2-clause-locked : goal.returns-in-Ok-lock-2-clause-locked
returns-in-Ok-lock-2-clause-locked c =
    locked_is c.args.scheme Ope c.args.key.now c.args.place c.args.column.ty c.in-Ok-lock-2.locked.ty c.args.column.cells
    c.in-Ok-lock-2.locked.cells c.in-Ope.is c.in-Ok-lock-2.ensures.typed c.in-Ok-lock-2.ensures.sealed c.in-Ok-lock-2.ensures.opens
