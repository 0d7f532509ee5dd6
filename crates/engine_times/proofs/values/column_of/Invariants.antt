-- There is a value for each row so far, and each is one of the type.
use Rattle.std.proofs.Common.{◌≡◌, length}
use Rattle.std.specs.List.{All}
use Rattle.mq_base.specs.Bytes.{IsShort}
use Rattle.sealed_column.specs.Seal.{IsValueOf}
use Rattle.engine_times.proofs.values.column_of.Given as goal

abbrev pub invariant-loop-row : goal.invariant-loop-row
invariant-loop-row l = record {
  rows : length l.values.items ≡ l.row;
  typed : All (IsValueOf l.ty) l.values.items;
  short : All IsShort l.values.items;
}
