use Rattle.query_bind.proofs.items.note_item.Goals as goal

pub returns : goal.returns
returns c = rw c.in-Agg.is (rw c.attribute_of.ensures.named at c.note.ensures)
