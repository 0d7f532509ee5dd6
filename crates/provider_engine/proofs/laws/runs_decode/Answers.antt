use Rattle.provider_engine.proofs.DecodeLaws as laws
use Rattle.provider_engine.proofs.laws.runs_decode.Goals as goal

pub returns : goal.returns
returns c = laws.runs_decode
