use Rattle.std.proofs.Common.{◌≡◌}
use Rattle.key_clusters.specs.Clusters.{least_of, set_of}
use Rattle.base_laws.proofs.FillLaws.{filled}
use Rattle.key_clusters.proofs.finding.all_clusters.Given as goal

abbrev pub invariant-loop-a : goal.invariant-loop-a
invariant-loop-a l = l.cluster ≡ filled (λ a. least_of (set_of l.family a)) (record { 0 = 0 }) l.a
