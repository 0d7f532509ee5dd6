use Rattle.std.proofs.Common.{ℕ}
use Rattle.assign_table.specs.inside.Arrivals.{IsPairListed, StaysOpen}
use Rattle.assign_table.specs.inside.Sheet.{sheet_of}
use Rattle.assign_table.proofs.ArriveLaws.{IsAmong}
use Rattle.assign_table.proofs.pairs.pair_rights.Given as goal

abbrev pub invariant-rights : goal.invariant-rights
invariant-rights l = record {
  opened : StaysOpen l.gate l.room (sheet_of l.initial.table) (sheet_of l.table);
  listed : (w : ℕ) → IsAmong l.rights l.right-index w → IsPairListed l.gate (sheet_of l.table).cells l.left w;
}
