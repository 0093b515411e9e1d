-- The text so far is ledger text, and stood before what is left.
use Rattle.std.proofs.Common.{◌≡◌, ◌≤◌, ◌+◌, vec_len}
use Rattle.std.specs.Io.KnownBytes.{Consumes, prepend_known}
use Rattle.lot_syntax.specs.Line.{IsLine}
use Rattle.lot_io.specs.Reads.{counted}
use Rattle.lot_stream.specs.Input.{NoneFailed}
use Rattle.lot_dump.proofs.LineLemmas.{between}
use Rattle.lot_parts.specs.Dump.{IsLedger}
use Rattle.lot_parts.specs.Reading.{lines_in, longest_text}
use Rattle.lot_parts.proofs.feed.Feed.read_text.Given as goal

abbrev pub invariant-loop-line : goal.invariant-loop-line
invariant-loop-line g l = record {
  taken : Consumes (prepend_known l.initial.self.lines (g.R.CountedRead.remaining l.initial.reader)) (prepend_known l.self.lines (g.R.CountedRead.remaining l.reader)) l.text.items;
  ledger : IsLedger l.text.items;
  is_line : IsLine l.self.line.items;
  grows : l._line ≤ vec_len l.text;
  limit : vec_len l.text ≤ longest_text;
  count : l.self.count ≡ counted (l.initial.self.count + lines_in l.text.items);
  calls : NoneFailed (between (g.R.CountedRead.calls l.initial.reader) (g.R.CountedRead.calls l.reader));
}
