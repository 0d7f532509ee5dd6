use Rattle.mq_base.specs.declared.table.Scheme.TheVariants.{Rnd, Det, Ope}
use Rattle.provider_engine.proofs.SealRows.{clear_is, opened_shows}
use Rattle.provider_engine.proofs.seal.open_column.Goals as goal

pub returns-in-Clear-clause-opened : goal.returns-in-Clear-clause-opened
returns-in-Clear-clause-opened c =
    rw c.in-Clear.is (λ values opens. clear_is c.args.key.now c.in-Clear.clear.ty c.in-Clear.clear.cells values opens)

pub returns-in-Ok-clause-opened : goal.returns-in-Ok-clause-opened
returns-in-Ok-clause-opened c =
    rw c.in-Rnd.is (opened_shows Rnd c.args.key.now c.in-Rnd.locked.ty c.in-Ok.clear.ty c.in-Rnd.locked.cells c.in-Ok.clear.cells
    c.in-Ok.ensures.typed c.in-Ok.ensures.values)

pub returns-in-Ok-unlock-clause-opened : goal.returns-in-Ok-unlock-clause-opened
returns-in-Ok-unlock-clause-opened c =
    rw c.in-Det.is (opened_shows Det c.args.key.now c.in-Det.locked.ty c.in-Ok-unlock.clear.ty c.in-Det.locked.cells
    c.in-Ok-unlock.clear.cells c.in-Ok-unlock.ensures.typed c.in-Ok-unlock.ensures.values)

pub returns-in-Ok-unlock-2-clause-opened : goal.returns-in-Ok-unlock-2-clause-opened
returns-in-Ok-unlock-2-clause-opened c =
    rw c.in-Ope.is (opened_shows Ope c.args.key.now c.in-Ope.locked.ty c.in-Ok-unlock-2.clear.ty c.in-Ope.locked.cells
    c.in-Ok-unlock-2.clear.cells c.in-Ok-unlock-2.ensures.typed c.in-Ok-unlock-2.ensures.values)
