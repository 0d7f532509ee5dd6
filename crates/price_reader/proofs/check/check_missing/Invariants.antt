use Rattle.std.proofs.Common.{◌≡◌, ◌-◌, length}
use Rattle.base_laws.specs.Firsts.{first_at}
use Rattle.price_reader.specs.Faults.{missing_fault}
use Rattle.price_reader.proofs.check.check_missing.Given as goal

abbrev pub invariant-loop-item : goal.invariant-loop-item
invariant-loop-item l = first_at (missing_fault l.names l.at l.entries) 0 (length l.names) ≡ first_at (missing_fault l.names l.at l.entries) l.item (length l.names - l.item)
