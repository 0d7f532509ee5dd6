use Rattle.provider_engine.proofs.SealRows.{sealed_is}
use Rattle.column_table.specs.Columns.{shown}
use Rattle.provider_engine.proofs.seal.seal_column.Goals as goal

pub returns-in-Ok-clause-locked : goal.returns-in-Ok-clause-locked
returns-in-Ok-clause-locked c =
    rw c.in-Clear.is (sealed_is c.args.scheme c.args.key.now c.args.place c.in-Clear.clear.ty c.in-Clear.clear.cells (shown c.in-Ok.locked)
    c.in-Ok.ensures.locked)
