use Rattle.std.proofs.Common.{ℕ}
use Rattle.assign_table.specs.inside.Arrivals.{IsHolderListed, StaysOpen}
use Rattle.assign_table.specs.inside.Blocks.{IsFrom}
use Rattle.assign_table.specs.inside.Sheet.{sheet_of}
use Rattle.assign_table.proofs.pairs.arrive_pairs.Given as goal

abbrev pub invariant-holders : goal.invariant-holders
invariant-holders l = record {
  opened : StaysOpen l.gate l.room (sheet_of l.initial.table) (sheet_of l.table);
  listed : (holder : ℕ) → IsFrom 0 l.holder holder → IsHolderListed l.gate l.left l.right holder (sheet_of l.table).cells;
}
