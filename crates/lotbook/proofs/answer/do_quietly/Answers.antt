use Rattle.std.proofs.Common.{ap}
use Rattle.lotbook.proofs.answer.do_quietly.Goals as goal

pub returns : goal.returns
returns g c = record {
  serves = rw c.preview.ensures at c.serve_with_preview.ensures.serves;
  outside = c.serve_with_preview.ensures.outside;
  ends = c.serve_with_preview.ensures.status;
  unread = λ nothing.
      let same = c.serve_with_preview.ensures.unread nothing in
      (ap g.R.CountedRead.remaining same, ap g.R.CountedRead.calls same);
}
