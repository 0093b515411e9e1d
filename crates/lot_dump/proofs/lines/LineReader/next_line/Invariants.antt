-- The line so far stands before what is ahead and what the reader has left, and no call failed.
use Rattle.std.proofs.Common.{◌≤◌, vec_len}
use Rattle.std.specs.Io.KnownBytes.{Consumes, prepend_known}
use Rattle.lot_syntax.specs.Line.{IsLine}
use Rattle.lot_dump.proofs.LineLemmas.{between}
use Rattle.lot_dump.specs.Lines.{Made, longest_input_line}
use Rattle.lot_dump.proofs.lines.LineReader.next_line.Given as goal

abbrev pub invariant-loop-made : goal.invariant-loop-made
invariant-loop-made g l = record {
  taken : Consumes (prepend_known l.initial.self (g.R.CountedRead.remaining l.initial.reader)) (prepend_known l.self (g.R.CountedRead.remaining l.reader)) l.line.items;
  calls : Made (between (g.R.CountedRead.calls l.initial.reader) (g.R.CountedRead.calls l.reader)) l._made 0;
  small : vec_len l.line ≤ longest_input_line;
  is_line : IsLine l.line.items;
}
