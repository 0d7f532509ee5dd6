use Rattle.provider_engine.proofs.SubtermLaws as laws
use Rattle.provider_engine.proofs.laws.hidden_columns_do_not_matter_to_holders.Goals as goal

pub returns : goal.returns
returns c = laws.hidden_from_holders
