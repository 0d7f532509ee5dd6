use Rattle.provider_engine.proofs.TypedLaws as laws
use Rattle.provider_engine.proofs.laws.nodes_are_narrow.Goals as goal

pub returns : goal.returns
returns c = laws.nodes_are_narrow
