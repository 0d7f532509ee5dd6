use Rattle.sealed_column.specs.inside.Opening.{IsSealOf, same_key, value_at}
use Rattle.sealed_column.proofs.MemoLaws.{memo_longer}
use Rattle.sealed_column.proofs.OpenLaws.{if_ok}
use Rattle.sealed_column.proofs.lock.seal_row.Goals as goal

pub returns-in-Rnd-clause-kept : goal.returns-in-Rnd-clause-kept
returns-in-Rnd-clause-kept c =
    if_ok c.seal_value.result
    (λ cell sealed. memo_longer same_key value_at (IsSealOf c.args.scheme c.args.key.now) c.args.cells.now c.args.memo.now cell
    c.requires.memo)
    c.seal_value.ensures.sealed
