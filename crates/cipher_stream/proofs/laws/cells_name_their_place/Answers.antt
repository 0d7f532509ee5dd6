use Rattle.cipher_stream.proofs.CellLaws.{names_its_place}
use Rattle.cipher_stream.proofs.laws.cells_name_their_place.Goals as goal

pub returns : goal.returns
returns c = names_its_place
