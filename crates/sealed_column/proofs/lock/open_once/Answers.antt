use Rattle.sealed_column.specs.inside.Opening.{IsOpened, bytes_at, same_bytes}
use Rattle.sealed_column.proofs.MemoLaws.{bytes_exact, memo_found, memo_more}
use Rattle.sealed_column.proofs.OpenLaws.{if_ok}
use Rattle.sealed_column.proofs.lock.open_once.Goals as goal

pub returns-in-Some-clause-opened : goal.returns-in-Some-clause-opened
returns-in-Some-clause-opened c =
    if_ok c.copy_cell.result
    (λ value copy. rw copy
    (memo_found same_bytes bytes_at (IsOpened c.args.scheme c.args.key.now c.args.ty) c.args.values.now c.args.memo.now
    (record { bytes = c.args.cell }) c.in_ok-row.row c.in-Some.value.now c.requires.memo c.in_ok-row.ensures.row
    c.in-Some.ensures.lookup.3.0 c.in-Some.ensures.lookup.1))
    c.copy_cell.ensures

pub returns-in-Some-clause-kept : goal.returns-in-Some-clause-kept
returns-in-Some-clause-kept c =
    if_ok c.copy_cell.result
    (λ value opened. memo_more same_bytes bytes_at (IsOpened c.args.scheme c.args.key.now c.args.ty) c.args.values.now bytes_exact
    c.args.memo.now c.row_told.new.memo (record { bytes = c.args.cell }) c.in_ok-row.row value c.requires.memo
    c.in_ok-row.ensures.row c.in_ok-row.ensures.told opened)
    (returns-in-Some-clause-opened c)

pub returns-in-None-clause-kept : goal.returns-in-None-clause-kept
returns-in-None-clause-kept c =
    if_ok c.open_value.result
    (λ value opened. memo_more same_bytes bytes_at (IsOpened c.args.scheme c.args.key.now c.args.ty) c.args.values.now bytes_exact
    c.args.memo.now c.row_told.new.memo (record { bytes = c.args.cell }) c.in_ok-row.row value c.requires.memo
    c.in_ok-row.ensures.row c.in_ok-row.ensures.told opened)
    c.open_value.ensures
