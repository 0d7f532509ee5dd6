use Rattle.sealed_column.proofs.SealFacts.{table_cell}
use Rattle.sealed_column.proofs.laws.table_cells_can_be_sealed.Goals as goal

pub returns : goal.returns
returns c = table_cell
