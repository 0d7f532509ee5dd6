use Rattle.sealed_column.proofs.OpenLaws.{if_ok, ope_opened}
use Rattle.sealed_column.proofs.open.open_in_order.Goals as goal

pub returns : goal.returns
returns c =
    if_ok c.read_digits.result
    (ope_opened c.args.key.now c.args.cell.now c.unseal_digits.new.digits c.args.ty c.requires c.unseal_digits.ensures.undone)
    c.read_digits.ensures
