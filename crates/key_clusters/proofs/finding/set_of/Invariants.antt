use Rattle.std.proofs.Common.{◌≡◌, drop}
use Rattle.key_clusters.specs.Clusters.{set_of}
use Rattle.key_clusters.proofs.finding.set_of.Given as goal

abbrev pub invariant-loop-set : goal.invariant-loop-set
invariant-loop-set l = set_of l.family l.a.0 ≡ set_of (drop l.set-index l.family) l.a.0
