use Rattle.std.proofs.Common.{◌≡◌, ◌+◌, ◌<◌, drop, take}
use Rattle.mq_base.specs.Nodes.{unjoined, unjoined_after}
use Rattle.query_bind.proofs.nodes.unjoined.Given as goal

abbrev pub invariant-loop-at : goal.invariant-loop-at
invariant-loop-at l = record {
  few : l.count < l.at;
  left : unjoined l.schema l.conds l.tables ≡ l.count + unjoined_after l.schema l.conds (take l.at l.tables) (drop l.at l.tables);
}
