-- The values so far are those that the cells so far open to, and the memo tells of them.
use Rattle.std.proofs.Common.{take}
use Rattle.std.specs.List.{AllZip}
use Rattle.sealed_column.specs.inside.Opening.{IsMemo, IsOpened, bytes_at, same_bytes}
use Rattle.sealed_column.proofs.lock.open_all.Given as goal

abbrev pub invariant-loop-cell : goal.invariant-loop-cell
invariant-loop-cell l =
    AllZip (IsOpened l.scheme l.key l.ty) (take l.cell-index l.cells) l.values.items
    × IsMemo same_bytes bytes_at (IsOpened l.scheme l.key l.ty) l.values.items l.memo
