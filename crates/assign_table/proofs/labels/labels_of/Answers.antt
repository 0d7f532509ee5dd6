use Rattle.std.proofs.Common.{◌+◌, arith}
use Rattle.assign_table.proofs.PlaceLaws.{starts_low}
use Rattle.assign_table.proofs.labels.labels_of.Goals as goal

pub sorted_from-requires-clause-inside : goal.sorted_from-requires-clause-inside
sorted_from-requires-clause-inside c =
    starts_low c.args.settled.now c.args.starts.now c.args.count c.requires.blocks (c.nodes.node + 1) (omega arith)
