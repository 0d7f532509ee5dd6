use Rattle.assign_table.specs.inside.Blocks.{AreLabelsOf}
use Rattle.assign_table.proofs.labels.labels_of.Given as goal

abbrev pub invariant-nodes : goal.invariant-nodes
invariant-nodes l = AreLabelsOf l.settled l.starts l.node l.nodes.items
