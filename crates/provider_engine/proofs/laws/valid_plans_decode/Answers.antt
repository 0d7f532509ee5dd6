use Rattle.provider_engine.proofs.SubtermLaws as laws
use Rattle.provider_engine.proofs.laws.valid_plans_decode.Goals as goal

pub returns : goal.returns
returns c = laws.valid_plans_decode
