use Rattle.row_algebra.proofs.RowLaws as laws
use Rattle.row_algebra.proofs.laws.selected_cut.Goals as goal

pub returns : goal.returns
returns g c number set items all r = laws.selected_cut number set items all r
