use Rattle.std.proofs.Common.{◌+◌, ◌*◌, ◌++◌, [], ◌∷◌, get_or, take, ap, sym, ◌∙◌, refl, rules}
use Rattle.std.proofs.lemmas.Nat.{be_bytes_2}
use Rattle.cipher_order.proofs.Order.{take_two}
use Rattle.cipher_order.proofs.earlier.read_number.Goals as goal

pub returns : goal.returns
returns c =
    let bytes = c.args.bytes.now in
    let at = 2 * c.args.at in
    let pair = get_or bytes at 0 ∷ get_or bytes (at + 1) 0 ∷ [] in
    take_two bytes at c.requires ∙ ap (λ p. take at bytes ++ p) (sym (be_bytes_2 pair _ refl (search rules) c.from_be_bytes.ensures))
