-- The rows are in range and have the cells of the groups so far.
use Rattle.std.proofs.Common.{◌≡◌, ◌<◌, All, length, map, slice_get, take}
use Rattle.mq_base.specs.declared.query.Agg.TheVariants.{Min}
use Rattle.column_table.specs.Columns.{shown}
use Rattle.column_table.specs.Groups.{folded_at}
use Rattle.column_table.proofs.fold.least_rows.Given as goal

abbrev pub invariant-loop-group : goal.invariant-loop-group
invariant-loop-group l = record {
  within : All (λ row. row < length (shown l.column).cells) l.rows.items;
  cells : map (slice_get (shown l.column).cells) l.rows.items ≡ map (folded_at Min (shown l.column).cells) (take l.group-index l.groups);
}
