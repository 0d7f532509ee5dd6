use Rattle.std.proofs.Common.{ℕ}
use Rattle.assign_table.specs.inside.Arrivals.{IsOneListed, StaysOpen}
use Rattle.assign_table.specs.inside.Blocks.{IsFrom, start_of}
use Rattle.assign_table.specs.inside.Sheet.{sheet_of}
use Rattle.assign_table.proofs.arrive.arrive_one.Given as goal

abbrev pub invariant-places : goal.invariant-places
invariant-places l = record {
  opened : StaysOpen l.gate l.room (sheet_of l.initial.table) (sheet_of l.table);
  listed : (w : ℕ) → IsFrom (start_of l.gate.starts.now l.operand.0) l.at w → IsOneListed l.gate (sheet_of l.table).cells w;
}
