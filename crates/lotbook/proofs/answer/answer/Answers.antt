use Rattle.std.specs.Io.Buffered.{writer_contents}
use Rattle.sqlite.specs.Held.{state}
use Rattle.lot_io.specs.Reader.{counts_of}
use Rattle.lot_io.specs.Writer.{calls_of, writer_of}
use Rattle.lotbook.proofs.EndLemmas.{is_handed_on, still_outside}
use Rattle.lotbook.proofs.answer.answer.Goals as goal

pub returns : goal.returns
returns g c = record {
  rest = _;
  read = counts_of c.do_quietly-status.new.reader.reader;
  told = writer_contents g.W.Write.contents (writer_of c.do_quietly-status.new.writer).writer.writer.writer.buffer;
  wrote = calls_of c.do_quietly-status.new.writer;
  end = c.do_quietly-status.result.status;
  halt = c.do_quietly-status.result.halt;
  served = c.do_quietly-status.result.conn;
  serves = rw (c.new-reader.ensures.reader, c.new-reader.ensures.counts, c.new-writer.ensures.writer, c.new.ensures, c.new-appraiser.ensures, c.new-forewarner.ensures, c.new-writer.ensures.calls) at c.do_quietly-status.ensures;
  handed_on = is_handed_on _ _ _ _ _ c.status_behind.ensures
      (rw (c.into_writer-output.ensures, c.say_unpriced.ensures, c.into_parts-appraiser.ensures.writer, c.into_writer.ensures) at c.end-writer.ensures.whole)
      (rw (c.into_writer-output.ensures, c.say_unpriced.ensures, c.into_parts-appraiser.ensures.writer, c.into_writer.ensures) at c.end-writer.ensures.cut);
  looked = c.speak.ensures;
  outside = still_outside (state g.S.Store c.do_quietly-status.result.conn) (state g.S.Store c.speak.new.conn) c.speak.ensures c.do_quietly-status.ensures.outside;
}
