use Rattle.lot_cli.proofs.difference.tell_differences.Goals as goal

pub returns-clause-differ : goal.returns-clause-differ
returns-clause-differ g c = record {
  compared = c.compare-compared.result;
  mid = g.W.CountedWrite.contents c.compare-compared.new.writer;
  between = g.W.CountedWrite.calls c.compare-compared.new.writer;
  shows = c.compare-compared.ensures.shows;
  lines = c.compare-compared.ensures.lines;
  reads_new = c.compare-compared.ensures.reads_new;
  reads_old = c.compare-compared.ensures.reads_old;
  cause = c.compare-compared.ensures.cause;
  ends = c.conclude.ensures.ends;
}
