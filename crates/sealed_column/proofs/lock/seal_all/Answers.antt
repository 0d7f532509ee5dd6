use Rattle.std.proofs.Common.{◌∙◌, ap, sym, subst}
use Rattle.std.proofs.lemmas.List.{take_all}
use Rattle.std.specs.List.{All}
use Rattle.mq_base.specs.Bytes.{IsShort}
use Rattle.sealed_column.specs.Seal.{IsSealable, sealed_from}
use Rattle.sealed_column.proofs.LockLaws.{all_more, sealed_more}
use Rattle.sealed_column.proofs.lock.seal_all.Goals as goal

pub seal_row-requires : goal.seal_row-requires
seal_row-requires c = record {
  short =
      subst IsShort (sym c.value-item.is) (c.requires c.loop-value.value-index c.value-item.result c.loop-value-test.true);
  memo = rw c.as_slice.ensures.value c.loop-value.invariant.2;
}

pub loop-value-preserved : goal.loop-value-preserved
loop-value-preserved c = (
  sealed_more c.args.scheme c.args.key.now c.args.step c.loop-value.value-index c.args.values.now c.value-item.result
      c.in_ok-cell.cell c.loop-value.cells.items c.push.new.self.items c.loop-value-test.true c.value-item.is
      c.loop-value.invariant.0 (rw c.as_slice.ensures.value at c.in_ok-cell.ensures.sealed) c.in_ok-push.ensures.items,
  all_more IsSealable c.args.values.now c.loop-value.value-index c.value-item.result c.loop-value-test.true c.value-item.is
      c.loop-value.invariant.1 c.in_ok-cell.ensures.sealable,
  rw (c.in_ok-push.ensures.items, ← c.as_slice.ensures.value) c.in_ok-cell.ensures.kept,
)

pub returns : goal.returns
returns c =
    let all = take_all c.loop-value.value-index c.args.values.now c.loop-value-test.false in
    record {
      sealed = c.loop-value.invariant.0 ∙ ap (sealed_from c.args.scheme c.args.key.now c.args.step 0) all;
      sealable = subst (All IsSealable) all c.loop-value.invariant.1;
    }
