use Rattle.key_clusters.proofs.SupportLaws.{schemes-support}
use Rattle.key_clusters.proofs.laws.schemes_support.Goals as goal

pub returns : goal.returns
returns c = schemes-support c.args.facts.now c.args.ceilings.now c.args.n.0 c.requires.high c.requires.node
