use Rattle.sealed_column.proofs.OpenLaws.{if_ok, rnd_opened}
use Rattle.sealed_column.proofs.open.open_randomised.Goals as goal

pub returns : goal.returns
returns c =
    if_ok c.read_block.result
    (rnd_opened c.args.key.now c.args.cell.now c.unseal_into.new.out c.args.ty c.unseal_into.ensures.opened)
    c.read_block.ensures
