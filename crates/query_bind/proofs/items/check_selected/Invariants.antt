use Rattle.std.proofs.Common.{◌≡◌, drop, map}
use Rattle.query_bind.specs.inside.Gathered.{aggs_after, gathered_fault}
use Rattle.query_bind.specs.inside.Results.{selected_of}
use Rattle.query_bind.proofs.items.check_selected.Given as goal

abbrev pub invariant-loop-item : goal.invariant-loop-item
invariant-loop-item l = record {
  fault : gathered_fault l.schema l.group.0 l.initial.aggs (map selected_of l.items) ≡ gathered_fault l.schema l.group.0 l.aggs (map selected_of (drop l.item-index l.items));
  aggs : aggs_after l.schema l.initial.aggs (map selected_of l.items) ≡ aggs_after l.schema l.aggs (map selected_of (drop l.item-index l.items));
}
