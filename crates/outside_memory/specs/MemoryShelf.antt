-- The parts of the shelf in memory that its clauses name.
use Rattle.std.specs.Prelude.{ℕ, List}
use Rattle.outside_memory.specs.declared.memory_shelf.MemoryShelf.{MemoryShelf}
use Rattle.outside_io.specs.Outside.{Files}

-- its files, a name and bytes each
abbrev pub files_of : MemoryShelf → Files
files_of shelf = shelf.files

-- the numbers of the calls that are to fail
abbrev pub failing_of : MemoryShelf → List ℕ
failing_of shelf = shelf.failing

-- how many calls were made
abbrev pub calls_of : MemoryShelf → ℕ
calls_of shelf = shelf.calls
