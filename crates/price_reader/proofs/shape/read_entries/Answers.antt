use Rattle.std.proofs.Common.{◌∙◌}
use Rattle.price_reader.proofs.EntryLaws.{entries_more}
use Rattle.price_reader.proofs.shape.read_entries.Goals as goal

pub loop-key-preserved : goal.loop-key-preserved
loop-key-preserved c =
    c.loop-key.invariant
    ∙ rw c.in-Some.ensures.steps (entries_more c.loop-key.entries c.in-Some.key.now c.in-Some.value.now c.next.new.self c.in_ok-read_entry.field-0
    c.push.new.self c.in_ok-read_entry.ensures c.in_ok-push.ensures.ok)
