use Rattle.std.proofs.Common.{◌∙◌, ap, length, subst}
use Rattle.std.proofs.lemmas.List.{take_all}
use Rattle.std.specs.List.{AllZip}
use Rattle.sealed_column.specs.inside.Opening.{IsOpened}
use Rattle.sealed_column.proofs.LockLaws.{zip_more}
use Rattle.sealed_column.proofs.lock.open_all.Goals as goal

pub open_row-requires : goal.open_row-requires
open_row-requires c = record {
  len =
      ap length (c.as_bytes-cell.ensures ∙ c.cell-item.is)
      ∙ c.requires c.loop-cell.cell-index c.cell-item.result c.loop-cell-test.true;
  memo = rw c.as_slice.ensures.value c.loop-cell.invariant.1;
}

pub loop-cell-preserved : goal.loop-cell-preserved
loop-cell-preserved c = (
  zip_more (IsOpened c.args.scheme c.args.key.now c.args.ty) c.args.cells.now c.loop-cell.cell-index c.loop-cell.values.items
      c.push.new.self.items c.cell-item.result c.in_ok-value.value c.loop-cell-test.true c.cell-item.is c.loop-cell.invariant.0
      (rw c.as_bytes-cell.ensures at c.in_ok-value.ensures.opened) c.in_ok-push.ensures.items,
  rw (c.in_ok-push.ensures.items, ← c.as_slice.ensures.value) c.in_ok-value.ensures.kept,
)

pub returns : goal.returns
returns c =
    subst (λ cells. AllZip (IsOpened c.args.scheme c.args.key.now c.args.ty) cells c.loop-cell.values.items)
    (take_all c.loop-cell.cell-index c.args.cells.now c.loop-cell-test.false) c.loop-cell.invariant.0
