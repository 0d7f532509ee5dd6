use Rattle.std.specs.BinaryHeap.{heap_len}
use Rattle.assign_table.specs.inside.Sheet.{IsSifted, sheet_of}
use Rattle.assign_table.proofs.table.Table.take.Given as goal

abbrev pub invariant-sifting : goal.invariant-sifting
invariant-sifting l = IsSifted (sheet_of l.initial.self) (sheet_of l.self)

abbrev pub decreases-sifting : goal.decreases-sifting
decreases-sifting l = heap_len l.self.queue
