use Rattle.std.proofs.Common.{◌≡◌}
use Rattle.assign_table.specs.inside.Blocks.{entries_from}
use Rattle.assign_table.proofs.labels.listed_from.Given as goal

abbrev pub invariant-places : goal.invariant-places
invariant-places l = l.entries.items ≡ entries_from l.settled l.from l.at
