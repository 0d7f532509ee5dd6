use Rattle.key_clusters.specs.Clusters.{root_family}
use Rattle.key_clusters.proofs.SetLaws.{cluster-least}
use Rattle.key_clusters.proofs.laws.cluster_is_least.Goals as goal

pub returns : goal.returns
returns c =
    cluster-least (root_family c.args.facts.now) c.args.a.0 c.requires (rw c.root_family-family.ensures.sets at c.root_family-family.ensures.family)
