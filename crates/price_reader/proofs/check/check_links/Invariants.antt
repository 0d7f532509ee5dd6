use Rattle.std.proofs.Common.{◌≡◌, ◌-◌, length}
use Rattle.base_laws.specs.Firsts.{first_at}
use Rattle.price_reader.specs.Faults.{link_fault}
use Rattle.price_reader.proofs.check.check_links.Given as goal

abbrev pub invariant-loop-item : goal.invariant-loop-item
invariant-loop-item l = first_at (link_fault l.subjects l.links) 0 (length l.links) ≡ first_at (link_fault l.subjects l.links) l.item (length l.links - l.item)
