use Rattle.std.proofs.Common.{◌+◌, ◌*◌, ◌++◌, length, take, ap, ◌∙◌, arith}
use Rattle.std.proofs.lemmas.Slice.{take-put_mid}
use Rattle.cipher_order.proofs.earlier.write_number.Goals as goal

pub returns : goal.returns
returns c =
    let bytes = c.args.bytes.now in
    let at = 2 * c.args.at in
    let written = c.copy_from_slice.ensures.after ∙ c.to_be_bytes.ensures in
    take-put_mid at _ bytes _ (at + 2) (omega (arith, ap length written)) (omega arith) ∙ ap (λ p. take at bytes ++ p) written
