use Rattle.std.proofs.Common.{sym, ◌∙◌, arith}
use Rattle.provider_engine.proofs.SealRows.{put_back, put_locked}
use Rattle.provider_engine.proofs.seal.seal_place.Goals as goal

pub returns-in-Ok-clause-locked : goal.returns-in-Ok-clause-locked
returns-in-Ok-clause-locked c =
    rw c.put_column.ensures
    (put_locked c.args.scheme c.args.key.now c.args.place c.args.columns.now c.from-at.result c.args.a.0 c.index-columns-at.result
    c.take.new.self c.in-Some.column c.in-Ok.made c.from-at.ensures (omega arith)
    c.index-columns-at.is (c.in-Some.ensures.value ∙ sym c.index-columns-at.is)
    c.in-Ok.ensures.locked)

pub returns-in-Err-clause-unchanged : goal.returns-in-Err-clause-unchanged
returns-in-Err-clause-unchanged c =
    c.put_column-in-Err.ensures
    ∙ put_back c.args.columns.now c.from-at.result c.args.a.0 c.index-columns-at.result c.take.new.self c.in-Some.column c.in-Err.column
    c.from-at.ensures (omega arith)
    c.index-columns-at.is (c.in-Some.ensures.value ∙ sym c.index-columns-at.is) c.in-Err.ensures.back
