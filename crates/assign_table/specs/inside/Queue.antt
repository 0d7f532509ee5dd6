-- The order in which a table keeps what waits.
use Rattle.std.specs.Ordering.{nat_cmp, ordering_then}
use Rattle.std.specs.declared.cmp.Ordering.{Ordering}
use Rattle.std.specs.declared.cmp.Reverse.{Reverse}
use Rattle.assign_table.specs.declared.cell.Waiting.{Waiting}

-- the least label stands last, and of one label the first place
abbrev pub place_cmp : Reverse Waiting → Reverse Waiting → Ordering
place_cmp x y = ordering_then (nat_cmp y.0.label x.0.label) (nat_cmp y.0.place x.0.place)
