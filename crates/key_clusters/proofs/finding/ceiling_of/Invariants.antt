use Rattle.std.proofs.Common.{◌≡◌}
use Rattle.key_clusters.specs.Clusters.{ceiling_of, smaller}
use Rattle.key_clusters.proofs.CeilingLaws.{ceiling_from}
use Rattle.key_clusters.proofs.finding.ceiling_of.Given as goal

abbrev pub invariant-loop-a : goal.invariant-loop-a
invariant-loop-a l = ceiling_of l.ceilings l.set ≡ smaller l.least (ceiling_from l.ceilings l.set l.a)
