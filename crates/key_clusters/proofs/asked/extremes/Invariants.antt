use Rattle.std.proofs.Common.{◌≡◌, drop}
use Rattle.base_laws.specs.Sets.{with_members}
use Rattle.key_clusters.specs.Asked.{extremes}
use Rattle.key_clusters.proofs.asked.extremes.Given as goal

abbrev pub invariant-loop-a : goal.invariant-loop-a
invariant-loop-a l = with_members 0 (extremes l.aggs) ≡ with_members l.set.0 (extremes (drop l.a-index l.aggs))
