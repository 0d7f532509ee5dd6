use Rattle.provider_engine.proofs.BoundLaws as laws
use Rattle.provider_engine.proofs.laws.plans_are_typed.Goals as goal

pub returns : goal.returns
returns c = laws.plans_are_typed
