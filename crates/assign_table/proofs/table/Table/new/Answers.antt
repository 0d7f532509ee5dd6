use Rattle.std.proofs.Common.{ap, map, heap_items}
use Rattle.std.specs.Map.{keys_of}
use Rattle.assign_table.specs.inside.Sheet.{waits_at}
use Rattle.assign_table.proofs.QueueLaws.{heap-told}
use Rattle.assign_table.proofs.table.Table.new.Goals as goal

pub returns : goal.returns
returns c = record {
  cells = c.new.ensures.empty;
  queue = ap (map (waits_at (keys_of c.new.result.entries))) c.new-2.ensures.items;
  heap = heap-told (keys_of c.new.result.entries) (heap_items c.new-2.result) c.new-2.ensures.heap_order;
}
