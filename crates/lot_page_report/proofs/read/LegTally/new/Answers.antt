-- No leg is taken, and no sum has left its range.
use Rattle.std.proofs.lemmas.Bool.{false≢true}
use Rattle.lot_page_report.proofs.read.LegTally.new.Goals as goal

pub returns : goal.returns
returns c = record {
  positions = c.new.ensures;
  flows = λ is. c.no_flows.ensures;
  out = λ is. absurd (false≢true is);
}
