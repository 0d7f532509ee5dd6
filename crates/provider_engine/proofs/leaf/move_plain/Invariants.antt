-- The columns of the attributes so far have the table's values where that is asked, and what is left of the table is as it was.
use Rattle.std.proofs.Common.{◌≡◌, ◌≤◌, ℕ, slice_get}
use Rattle.base_laws.specs.Sets.{has}
use Rattle.column_table.specs.Columns.{shown_columns}
use Rattle.provider_engine.specs.inside.Leaves.{IsMovedAt, place_of}
use Rattle.provider_engine.proofs.LeafRows.{IsFilledTo}
use Rattle.provider_engine.proofs.leaf.move_plain.Given as goal

abbrev pub invariant-loop-a : goal.invariant-loop-a
invariant-loop-a l = record {
  place : l.at ≡ place_of l.schema l.fn.table.table.0 l.a;
  left : (i : ℕ) → l.at ≤ i → slice_get l.values.items i ≡ slice_get l.fn.table.columns i;
  filled : IsFilledTo (λ b before o. IsMovedAt l.schema l.fn.table b (has l.plain.0 b) before o) (shown_columns l.fn.columns)
      (shown_columns l.columns) l.a;
}
