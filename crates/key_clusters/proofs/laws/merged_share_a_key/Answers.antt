use Rattle.key_clusters.proofs.SupportLaws.{shares-key}
use Rattle.key_clusters.proofs.laws.merged_share_a_key.Goals as goal

pub returns : goal.returns
returns c =
    shares-key c.args.facts.now c.args.ceilings.now c.args.seed.now c.args.a.0 c.args.b.0
    (rw c.root_family-family.ensures.sets at c.root_family-family.ensures.family) c.requires
