use Rattle.provider_engine.proofs.KeyLaws as laws
use Rattle.provider_engine.proofs.laws.seals_are_shared.Goals as goal

pub returns : goal.returns
returns c = laws.seals_are_shared
