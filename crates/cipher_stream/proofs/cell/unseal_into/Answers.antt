use Rattle.std.proofs.Common.{arith, sym, ◌∙◌}
use Rattle.cipher_stream.proofs.Cells.{opened, sealed_of_opened, block_of_sealed}
use Rattle.cipher_stream.proofs.cell.unseal_into.Goals as goal

pub returns-clause-opened : goal.returns-clause-opened
returns-clause-opened c =
    sealed_of_opened c.args.key.now c.args.cell.now c.cover.new.block (omega arith) (λ i. omega (arith, c.type_inv.cell i))
    (opened _ c.args.cell.now _ _ _ _ c.step_of.ensures c.row_of.ensures c.copy_from_slice.ensures.after c.cover.ensures)

pub returns-clause-undone : goal.returns-clause-undone
returns-clause-undone c =
    λ step row block step_fits row_fits long is.
    block_of_sealed c.args.key.now step row block c.args.cell.now step_fits row_fits is
    ∙ sym (opened _ c.args.cell.now _ _ _ _ c.step_of.ensures c.row_of.ensures c.copy_from_slice.ensures.after c.cover.ensures)
