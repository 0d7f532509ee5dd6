use Rattle.std.proofs.Common.{ap, ◌∙◌, refl}
use Rattle.cipher_stream.specs.Stream.{seed_of, covered}
use Rattle.cipher_stream.proofs.Cells.{sealed_written}
use Rattle.cipher_stream.proofs.cell.seal_into.Goals as goal

pub returns : goal.returns
returns c = record {
  sealed =
      sealed_written c.args.out.now c.args.key.now c.copy_from_slice.new.self c.copy_from_slice-2.new.self c.args.block.now c.cover.new.block c.args.step c.args.row _
      refl
      (c.copy_from_slice.ensures.after ∙ c.to_be_bytes.ensures)
      (c.copy_from_slice-2.ensures.after ∙ c.to_be_bytes-2.ensures)
      (c.cover.ensures ∙ ap (covered (seed_of c.args.key.now c.args.step) c.args.row) c.copy_from_slice-3.ensures.after);
}
