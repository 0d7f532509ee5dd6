-- What was taken from the reader stands in the vector, and each turn takes at least one byte.
use Rattle.std.proofs.Common.{◌+◌, ◌-◌, ◌≤◌, length}
use Rattle.std.specs.Io.KnownBytes.{Consumes}
use Rattle.outside_io.proofs.stream.read_within.Given as goal

abbrev pub invariant-loop-buffer : goal.invariant-loop-buffer
invariant-loop-buffer g l = record {
  one_more : length l.into.items ≤ l.most + 1;
  taken : Consumes (g.R.Read.remaining l.initial.from) (g.R.Read.remaining l.from) l.into.items;
}

abbrev pub decreases-loop-buffer : goal.decreases-loop-buffer
decreases-loop-buffer g l = l.most + 1 - length l.into.items
