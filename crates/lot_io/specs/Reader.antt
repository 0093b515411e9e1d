-- A reader whose calls are counted.
use Rattle.lot_io.specs.Reads.{ReadCalls}
use Rattle.lot_io.specs.declared.reader.CountedReader.{CountedReader}

-- the reader
abbrev pub reader_of : {R : Type 0} → CountedReader R → R
reader_of counted = counted.reader

-- what its calls came to
abbrev pub counts_of : {R : Type 0} → CountedReader R → ReadCalls
counts_of counted =
    record { made = counted.made; failed = counted.failed; ended = counted.ended; given = counted.given }
