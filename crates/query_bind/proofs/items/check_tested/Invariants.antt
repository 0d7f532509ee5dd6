use Rattle.std.proofs.Common.{◌≡◌, drop, map}
use Rattle.query_bind.specs.inside.Gathered.{aggs_after, gathered_fault}
use Rattle.query_bind.specs.inside.Results.{tested_of}
use Rattle.query_bind.proofs.items.check_tested.Given as goal

abbrev pub invariant-loop-test : goal.invariant-loop-test
invariant-loop-test l = record {
  fault : gathered_fault l.schema l.group.0 l.initial.aggs (map tested_of l.having) ≡ gathered_fault l.schema l.group.0 l.aggs (map tested_of (drop l.test-index l.having));
  aggs : aggs_after l.schema l.initial.aggs (map tested_of l.having) ≡ aggs_after l.schema l.aggs (map tested_of (drop l.test-index l.having));
}
