-- The sums are those of the groups so far, each an INT.
use Rattle.std.proofs.Common.{◌≡◌, All, Some, map, take}
use Rattle.std.specs.Prelude.{IsTrue}
use Rattle.mq_base.specs.declared.query.Agg.TheVariants.{Sum}
use Rattle.mq_base.specs.declared.value.ValueType.TheVariants as type
use Rattle.column_table.specs.Cells.{Plain}
use Rattle.column_table.specs.Columns.{shown}
use Rattle.column_table.specs.Groups.{folded_at}
use Rattle.sealed_column.specs.Seal.{is_value_of}
use Rattle.column_table.proofs.fold.sum_column.Given as goal

abbrev pub invariant-loop-group : goal.invariant-loop-group
invariant-loop-group l = record {
  sums : map (λ v. Some (Plain v)) l.sums.items ≡ map (folded_at Sum (shown l.column).cells) (take l.group-index l.groups);
  ints : All (λ v. IsTrue (is_value_of type.Int v)) l.sums.items;
}
