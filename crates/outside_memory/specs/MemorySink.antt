-- The parts of the sink in memory that its clauses name.
use Rattle.std.specs.Prelude.{ℕ, List}
use Rattle.outside_memory.specs.declared.memory_sink.MemorySink.{MemorySink}

-- what was written so far
abbrev pub bytes_of : MemorySink → List ℕ
bytes_of sink = sink.written.items

-- the numbers of the calls that are to fail, each with how many bytes it keeps
abbrev pub failing_of : MemorySink → List (ℕ × ℕ)
failing_of sink = sink.failing

-- how many calls were made
abbrev pub calls_of : MemorySink → ℕ
calls_of sink = sink.calls
