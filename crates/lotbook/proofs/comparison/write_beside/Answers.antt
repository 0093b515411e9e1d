use Rattle.std.specs.Io.Buffered.{writer_contents}
use Rattle.lot_io.specs.Writer.{calls_of, writer_of}
use Rattle.lotbook.proofs.EndLemmas.{ends_compared, handed_on_beside, is_handed_on}
use Rattle.lotbook.proofs.ReadLemmas.{read_new, read_old}
use Rattle.lotbook.proofs.comparison.write_beside.Goals as goal

pub returns-clause-told : goal.returns-clause-told
returns-clause-told g c = record {
  new_left = _;
  old_left = _;
  end = c.status_of.result;
  ended = c.status_of.ensures;
  told = writer_contents g.W.Write.contents (writer_of c.tell_differences-end.new.writer).writer.buffer;
  wrote = calls_of c.tell_differences-end.new.writer;
  code = c.tell_differences-end.result;
  differ = rw (c.new-writer.ensures.writer, c.new.ensures, c.new-writer.ensures.calls) at c.tell_differences-end.ensures.differ;
  handed_on = is_handed_on _ _ _ _ _ c.status_behind.ensures (rw (c.into_parts-output.ensures.writer, c.into_writer.ensures) at c.end-writer.ensures.whole)
      (rw (c.into_parts-output.ensures.writer, c.into_writer.ensures) at c.end-writer.ensures.cut);
}

pub returns-clause-ends : goal.returns-clause-ends
unfolding returns-clause-told
returns-clause-ends g c =
    handed_on_beside _ _ _ _ _ (returns-clause-told g c).handed_on (ends_compared _ _ _ _ _ _ _ c.status_of.ensures c.tell_differences-end.ensures.differ.ends)

pub returns-clause-new_left : goal.returns-clause-new_left
returns-clause-new_left g c = read_new g.S.Store _ _ _ c.tell_differences-end.ensures.differ.reads_new

pub returns-clause-old_left : goal.returns-clause-old_left
returns-clause-old_left g c = read_old g.T.Store _ _ _ c.tell_differences-end.ensures.differ.reads_old
