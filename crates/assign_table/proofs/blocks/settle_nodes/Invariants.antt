use Rattle.extended_plan.specs.Job.{setting_of}
use Rattle.assign_table.specs.inside.Blocks.{AreDone}
use Rattle.assign_table.proofs.blocks.settle_nodes.Given as goal

abbrev pub invariant-nodes : goal.invariant-nodes
invariant-nodes l = AreDone (setting_of l.job) l.settled.items l.starts.items l.node
