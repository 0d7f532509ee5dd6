-- No file so far has the name, so what is left decides.
use Rattle.std.proofs.Common.{◌≡◌, drop}
use Rattle.outside_io.specs.Outside.{content_of}
use Rattle.outside_memory.proofs.memory_shelf.find_content.Given as goal

abbrev pub invariant-loop-file : goal.invariant-loop-file
invariant-loop-file l = content_of l.files l.name ≡ content_of (drop l.file-index l.files) l.name
