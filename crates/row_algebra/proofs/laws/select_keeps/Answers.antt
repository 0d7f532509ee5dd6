use Rattle.row_algebra.proofs.LikenessLaws as laws
use Rattle.row_algebra.proofs.laws.select_keeps.Goals as goal

pub returns : goal.returns
returns g c number figure items us vs leads counts all = laws.select_keeps _ _ number figure items us vs leads counts all
