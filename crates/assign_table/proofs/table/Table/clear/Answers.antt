use Rattle.std.proofs.Common.{ap, map, heap_items}
use Rattle.std.specs.Map.{keys_of}
use Rattle.assign_table.specs.inside.Sheet.{waits_at}
use Rattle.assign_table.proofs.QueueLaws.{heap-told}
use Rattle.assign_table.proofs.table.Table.clear.Goals as goal

pub returns : goal.returns
returns c = record {
  cells = c.clear-2.ensures.empty;
  queue = ap (map (waits_at (keys_of c.clear-2.new.self.entries))) c.clear.ensures.items;
  heap = heap-told (keys_of c.clear-2.new.self.entries) (heap_items c.clear.new.self) c.clear.ensures.heap_order;
}
