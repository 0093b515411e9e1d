use Rattle.std.specs.Io.Buffered.{writer_contents}
use Rattle.lot_io.specs.Reader.{counts_of, reader_of}
use Rattle.lot_io.specs.Writer.{calls_of, writer_of}
use Rattle.lot_cli.specs.Says.{told}
use Rattle.lotbook.proofs.EndLemmas.{is_handed_on, shows_from_none}
use Rattle.lotbook.proofs.showing.show_to.Goals as goal

pub returns : goal.returns
returns g c = record {
  rest = g.R.Read.remaining (reader_of c.show-shown.new.reader.reader);
  read = counts_of c.show-shown.new.reader.reader;
  text = writer_contents g.W.Write.contents (writer_of c.show-shown.new.writer).writer.buffer;
  wrote = calls_of c.show-shown.new.writer;
  end = c.show-shown.result.status;
  halt = c.show-shown.result.halt;
  shows = shows_from_none c.args.profile.now (g.R.Read.remaining c.args.input) (g.R.Read.remaining (reader_of c.show-shown.new.reader.reader)) _ _
      (counts_of c.new-reader.result.reader) (counts_of c.show-shown.new.reader.reader) (calls_of c.new-writer.result) (calls_of c.show-shown.new.writer)
      (told c.show-shown.result.status c.show-shown.result.halt) c.new-reader.ensures.counts c.new-writer.ensures.calls
      (rw (c.new-reader.ensures.reader, c.new-writer.ensures.writer, c.new.ensures) at c.show-shown.ensures.shows);
  handed_on = is_handed_on _ _ _ _ _ c.status_behind.ensures (rw (c.into_parts-output.ensures.writer, c.into_writer.ensures) at c.end-writer.ensures.whole)
      (rw (c.into_parts-output.ensures.writer, c.into_writer.ensures) at c.end-writer.ensures.cut);
}
