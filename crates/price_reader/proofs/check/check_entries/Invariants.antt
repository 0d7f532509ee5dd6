use Rattle.std.proofs.Common.{◌≡◌, ◌-◌, length}
use Rattle.base_laws.specs.Firsts.{first_at}
use Rattle.price_reader.specs.Faults.{entry_fault}
use Rattle.price_reader.proofs.check.check_entries.Given as goal

abbrev pub invariant-loop-item : goal.invariant-loop-item
invariant-loop-item l = first_at (entry_fault l.names l.least l.at l.entries) 0 (length l.entries) ≡ first_at (entry_fault l.names l.least l.at l.entries) l.item (length l.entries - l.item)
