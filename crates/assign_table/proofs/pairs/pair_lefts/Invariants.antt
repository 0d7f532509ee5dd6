use Rattle.std.proofs.Common.{ℕ}
use Rattle.std.specs.List.{Contains}
use Rattle.assign_table.specs.inside.Arrivals.{IsPairListed, StaysOpen}
use Rattle.assign_table.specs.inside.Sheet.{sheet_of}
use Rattle.assign_table.proofs.ArriveLaws.{IsAmong}
use Rattle.assign_table.proofs.pairs.pair_lefts.Given as goal

abbrev pub invariant-lefts : goal.invariant-lefts
invariant-lefts l = record {
  opened : StaysOpen l.gate l.room (sheet_of l.initial.table) (sheet_of l.table);
  listed : (v : ℕ) → IsAmong l.lefts l.left-index v → (w : ℕ) → Contains l.rights w → IsPairListed l.gate (sheet_of l.table).cells v w;
}
