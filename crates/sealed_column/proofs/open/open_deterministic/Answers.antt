use Rattle.sealed_column.proofs.OpenLaws.{det_opened, if_ok}
use Rattle.sealed_column.proofs.open.open_deterministic.Goals as goal

pub returns : goal.returns
returns c =
    if_ok c.read_block.result
    (det_opened c.args.key.now c.args.cell.now c.unseal_into.new.out c.args.ty c.requires c.unseal_into.ensures.undone)
    c.read_block.ensures
