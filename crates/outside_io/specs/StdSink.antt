-- The parts of a sink over a writer that its clauses name.
use Rattle.outside_io.specs.declared.std_sink.StdSink.{StdSink}

-- the writer to which the pieces go
abbrev pub writer_of : {W : Type 0} → StdSink W → W
writer_of sink = sink.writer
