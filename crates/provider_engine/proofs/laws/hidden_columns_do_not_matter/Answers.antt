use Rattle.provider_engine.proofs.AgreeLaws as laws
use Rattle.provider_engine.proofs.laws.hidden_columns_do_not_matter.Goals as goal

pub returns : goal.returns
returns c = laws.hidden_columns
