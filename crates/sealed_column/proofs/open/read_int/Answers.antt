use Rattle.sealed_column.proofs.OpenLaws.{int_read}
use Rattle.sealed_column.proofs.open.read_int.Goals as goal

pub returns : goal.returns
returns c =
    λ x fits spelt.
    int_read x c.cast_signed.result c.args.block.now c.copy_from_slice.new.self c.from_be_bytes.result fits spelt
    c.copy_from_slice.ensures.after c.from_be_bytes.ensures c.cast_signed.ensures
