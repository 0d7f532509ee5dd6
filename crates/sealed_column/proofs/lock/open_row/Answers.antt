use Rattle.sealed_column.specs.inside.Opening.{IsOpened, bytes_at, same_bytes}
use Rattle.sealed_column.proofs.MemoLaws.{memo_longer}
use Rattle.sealed_column.proofs.OpenLaws.{if_ok}
use Rattle.sealed_column.proofs.lock.open_row.Goals as goal

pub returns-in-Rnd-clause-kept : goal.returns-in-Rnd-clause-kept
returns-in-Rnd-clause-kept c =
    if_ok c.open_value.result
    (λ value opened. memo_longer same_bytes bytes_at (IsOpened c.args.scheme c.args.key.now c.args.ty) c.args.values.now
    c.args.memo.now value c.requires.memo)
    c.open_value.ensures
