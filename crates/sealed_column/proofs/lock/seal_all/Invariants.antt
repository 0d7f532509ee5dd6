-- The cells so far are those of the values so far, which can be sealed, and the memo tells of them.
use Rattle.std.proofs.Common.{◌≡◌, take}
use Rattle.std.specs.List.{All}
use Rattle.sealed_column.specs.Seal.{IsSealable, sealed_from}
use Rattle.sealed_column.specs.inside.Opening.{IsMemo, IsSealOf, same_key, value_at}
use Rattle.sealed_column.proofs.lock.seal_all.Given as goal

abbrev pub invariant-loop-value : goal.invariant-loop-value
invariant-loop-value l =
    (l.cells.items ≡ sealed_from l.scheme l.key l.step 0 (take l.value-index l.values))
    × All IsSealable (take l.value-index l.values)
    × IsMemo same_key value_at (IsSealOf l.scheme l.key) l.cells.items l.memo
