use Rattle.std.proofs.Common.{sym, subst, ◌∙◌}
use Rattle.sealed_column.specs.inside.Opening.{IsSealOf, same_key, value_at}
use Rattle.sealed_column.proofs.MemoLaws.{key_exact, memo_found, memo_more}
use Rattle.sealed_column.proofs.OpenLaws.{if_ok}
use Rattle.sealed_column.proofs.lock.seal_once.Goals as goal

pub returns-in-Some-clause-sealed : goal.returns-in-Some-clause-sealed
returns-in-Some-clause-sealed c =
    if_ok c.copied.result
    (λ cell copy. subst (IsSealOf c.args.scheme c.args.key.now c.args.value.now) (sym (copy ∙ c.as_bytes.ensures))
    (rw c.key_of.ensures at
    (memo_found same_key value_at (IsSealOf c.args.scheme c.args.key.now) c.args.cells.now c.args.memo.now c.key_of.result
    c.in_ok-row.row c.in-Some.cell.now c.requires.memo c.in_ok-row.ensures.row c.in-Some.ensures.lookup.3.0 c.in-Some.ensures.lookup.1)))
    c.copied.ensures

pub returns-in-Some-clause-kept : goal.returns-in-Some-clause-kept
returns-in-Some-clause-kept c =
    if_ok c.copied.result
    (λ cell sealed. memo_more same_key value_at (IsSealOf c.args.scheme c.args.key.now) c.args.cells.now key_exact c.args.memo.now
    c.row_told.new.memo c.key_of.result c.in_ok-row.row cell c.requires.memo c.in_ok-row.ensures.row c.in_ok-row.ensures.told
    (rw c.key_of.ensures sealed))
    (returns-in-Some-clause-sealed c)

pub returns-in-None-clause-kept : goal.returns-in-None-clause-kept
returns-in-None-clause-kept c =
    if_ok c.seal_fixed.result
    (λ cell sealed. memo_more same_key value_at (IsSealOf c.args.scheme c.args.key.now) c.args.cells.now key_exact c.args.memo.now
    c.row_told.new.memo c.key_of.result c.in_ok-row.row cell c.requires.memo c.in_ok-row.ensures.row c.in_ok-row.ensures.told
    (rw c.key_of.ensures sealed))
    c.seal_fixed.ensures
