use Rattle.std.proofs.Common.{sym, ◌∙◌}
use Rattle.std.proofs.lemmas.Option.{same_Some}
use Rattle.provider_engine.specs.inside.Sealing.{plain_column}
use Rattle.provider_engine.proofs.LeafRows.{moved_put}
use Rattle.sealed_column.specs.declared.column.AnyColumn.TheVariants.{Clear}
use Rattle.provider_engine.proofs.leaf.move_own.Goals as goal

pub returns-clause-moved : goal.returns-clause-moved
returns-clause-moved c = λ asked column read.
    let valued = c.plain_column.ensures.cells
    ∙ same_Some c.take_out-cells.result column (sym c.take_out-cells.ensures.taken ∙ read) in
    rw c.put_column.ensures (moved_put c.args.columns.now c.from.result c.args.a.0 (Clear c.plain_column.result) c.args.ty column c.from.ensures
    (λ j. plain_column (c.plain_column.ensures.typed j) (valued j)))
