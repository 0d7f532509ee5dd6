use Rattle.std.proofs.Common.{◌≡◌, replicate}
use Rattle.key_clusters.specs.Keys.{key_at}
use Rattle.base_laws.proofs.FillLaws.{filled}
use Rattle.key_clusters.proofs.keys.Keys.of.Given as goal

abbrev pub invariant-loop-a : goal.invariant-loop-a
invariant-loop-a l = l.keys ≡ filled (key_at l.seed l.clusters) (replicate 32 0) l.a
