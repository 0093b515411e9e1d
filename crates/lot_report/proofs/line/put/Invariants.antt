use Rattle.lot_io.specs.Writes.{NoneFailed}
use Rattle.lot_io.specs.Writes.{AtLeast}
use Rattle.lot_report.proofs.PrintLemmas.{IsWrittenTo}
use Rattle.lot_report.proofs.line.put.Given as goal

-- some bytes are written, and the rest is left; each time round made a call, and none failed
abbrev pub invariant-loop-made : goal.invariant-loop-made
invariant-loop-made g l = record {
  written : IsWrittenTo (g.W.CountedWrite.contents l.fn.writer) (g.W.CountedWrite.contents l.writer) l.bytes l.rest;
  calls : AtLeast l._made (g.W.CountedWrite.calls l.writer);
  none_failed : NoneFailed (g.W.CountedWrite.calls l.fn.writer) (g.W.CountedWrite.calls l.writer);
}
