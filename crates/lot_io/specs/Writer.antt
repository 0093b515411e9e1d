-- A writer whose calls are counted.
use Rattle.lot_io.specs.Writes.{WriteCalls}
use Rattle.lot_io.specs.declared.writer.CountedWriter.{CountedWriter}

-- the writer
abbrev pub writer_of : {W : Type 0} → CountedWriter W → W
writer_of counted = counted.writer

-- what its calls came to
abbrev pub calls_of : {W : Type 0} → CountedWriter W → WriteCalls
calls_of counted = record { made = counted.made; has_failed = counted.has_failed; is_flushed = counted.is_flushed }
