-- Each line of ledger text is put behind the text so far.
use Rattle.std.proofs.Common.{ap, ◌≡◌, ◌++◌, List, ℕ, refl, subst, sym, arith, length}
use Rattle.std.specs.Io.KnownBytes.{Consumes, prepend_known}
use Rattle.std.proofs.lemmas.Result.{err_from_is_err_and}
use Rattle.lot_syntax.specs.Line.{IsLine}
use Rattle.lot_report.specs.Printed.{line}
use Rattle.lot_dump.proofs.LineLemmas.{between}
use Rattle.lot_parts.specs.Dump.{IsLedger, IsText}
use Rattle.lot_parts.specs.Reading.{lines_in}
use Rattle.lot_parts.proofs.CountLemmas.{lines_both, one_line}
use Rattle.lot_parts.proofs.ReadLemmas.{Kinds, cause_on, endless_at, ledger_on, no_calls_fail, no_more_fail, nothing_ledger, nothing_taken, other_kind, put_line, room_cause, room_says, says_on, taken_on, text_kind, line_length, long_behind, long_taken}
use Rattle.lot_parts.proofs.feed.Feed.read_text.Goals as goal

pub loop-line-init : goal.loop-line-init
loop-line-init g c = record {
  taken =
      subst (λ (t : List ℕ). Consumes (prepend_known c.args.self.now.lines (g.R.CountedRead.remaining c.args.reader.now))
      (prepend_known c.args.self.now.lines (g.R.CountedRead.remaining c.args.reader.now)) t) (sym c.clear.ensures.items) (nothing_taken _);
  ledger = subst (λ (t : List ℕ). IsLedger t) (sym c.clear.ensures.items) nothing_ledger;
  is_line = subst (λ (t : List ℕ). IsLine t) (sym c.clear-2.ensures.items) refl;
  grows = omega (arith, c.clear.ensures.len);
  limit = omega (arith, c.clear.ensures.len);
  calls = no_calls_fail (g.R.CountedRead.calls c.args.reader.now);
  count =
      let none : lines_in c.clear.new.self.items ≡ 0 = ap lines_in c.clear.ensures.items in
      omega (arith, none);
}

pub returns-in_err-read_line-clause-no_dump : goal.returns-in_err-read_line-clause-no_dump
returns-in_err-read_line-clause-no_dump g c =
    let fault = err_from_is_err_and c.from_residual.result c.from_residual.ensures.1 in
    rw (fault.1, fault.2)
    (says_on _ _ c.in_err-read_line.field-0.0 (λ number says.
    endless_at c.args.self.now.count c.loop-line.self.count number (prepend_known c.args.self.now.lines (g.R.CountedRead.remaining c.args.reader.now))
    (prepend_known c.loop-line.self.lines (g.R.CountedRead.remaining c.loop-line.reader)) c.loop-line.text.items
    c.loop-line.invariant.taken c.loop-line.invariant.ledger c.loop-line.invariant.count says) c.in_err-read_line.ensures.no_dump)

pub returns-in_err-add_line-in-Text-clause-no_dump : goal.returns-in_err-add_line-in-Text-clause-no_dump
returns-in_err-add_line-in-Text-clause-no_dump g c =
    let fault = err_from_is_err_and c.from_residual-in_err-add_line-in-Text.result c.from_residual-in_err-add_line-in-Text.ensures.1 in
    rw (fault.1, fault.2) (room_says _ c.in_err-add_line-in-Text.field-0.0 c.in_err-add_line-in-Text.ensures.fault)

pub loop-line-preserved : goal.loop-line-preserved
loop-line-preserved g c =
    let text =
    subst (λ (t : List ℕ). IsText t) c.deref.ensures.value
    (text_kind c.deref.result.now (c.in-Text.ensures.head, c.in-Text.ensures.heading, c.in-Text.ensures.end)) in
    let put : c.add_line.new.text.items ≡ c.loop-line.text.items ++ line c.read_line.new.self.line.items =
    put_line c.add_line.new.text.items c.loop-line.text.items c.deref-in-Text.result.now c.read_line.new.self.line.items c.in_ok-add_line-in-Text.ensures.ok c.deref-in-Text.ensures.value in
    record {
      taken =
          subst (λ (t : List ℕ). Consumes (prepend_known c.args.self.now.lines (g.R.CountedRead.remaining c.args.reader.now))
          (prepend_known c.read_line.new.self.lines (g.R.CountedRead.remaining c.read_line.new.reader)) t) (sym put)
          (taken_on (prepend_known c.args.self.now.lines (g.R.CountedRead.remaining c.args.reader.now))
          (prepend_known c.loop-line.self.lines (g.R.CountedRead.remaining c.loop-line.reader))
          (prepend_known c.read_line.new.self.lines (g.R.CountedRead.remaining c.read_line.new.reader)) c.loop-line.text.items
          (line c.read_line.new.self.line.items) c.loop-line.invariant.taken c.in_ok-read_line.ensures.bytes);
      ledger =
          subst (λ (t : List ℕ). IsLedger t) (sym put)
          (ledger_on c.loop-line.text.items c.read_line.new.self.line.items c.loop-line.invariant.ledger (c.read_line.ensures.line, text));
      is_line = c.read_line.ensures.line;
      grows = omega (arith, c.in_ok-add_line-in-Text.ensures.grows, c.loop-line.invariant.grows);
      limit = c.in_ok-add_line-in-Text.ensures.limit;
      calls =
          no_more_fail (g.R.CountedRead.calls c.args.reader.now) (g.R.CountedRead.calls c.loop-line.reader)
          (g.R.CountedRead.calls c.read_line.new.reader) c.loop-line.invariant.calls c.in_ok-read_line.ensures.calls;
      count =
          let grown : lines_in c.add_line.new.text.items ≡ lines_in (c.loop-line.text.items ++ line c.read_line.new.self.line.items) = ap lines_in put in
          let both = lines_both c.loop-line.text.items (line c.read_line.new.self.line.items) in
          let one = one_line c.read_line.new.self.line.items c.read_line.ensures.line in
          omega (arith, grown, both, one, c.loop-line.invariant.count, c.in_ok-read_line.ensures.count);
    }

pub returns-in-Head : goal.returns-in-Head
returns-in-Head g c = record {
  bytes =
      taken_on _ (prepend_known c.loop-line.self.lines (g.R.CountedRead.remaining c.loop-line.reader)) _ _ _ c.loop-line.invariant.taken
      c.in_ok-read_line.ensures.bytes;
  ledger = c.loop-line.invariant.ledger;
  line = c.read_line.ensures.line;
  other =
      other_kind c.read_line.new.self.line.items c.kind_of.result
      (subst (λ (t : List ℕ). Kinds t c.kind_of.result) c.deref.ensures.value (c.kind_of.ensures.head, c.kind_of.ensures.heading, c.kind_of.ensures.end))
      c.in-Head.is;
  count = omega (arith, c.loop-line.invariant.count, c.in_ok-read_line.ensures.count);
  no_dump = tt;
  newer = λ is. cc;
  too_long = λ is. cc;
  cause = tt;
  calls =
      no_more_fail (g.R.CountedRead.calls c.args.reader.now) (g.R.CountedRead.calls c.loop-line.reader)
      (g.R.CountedRead.calls c.read_line.new.reader) c.loop-line.invariant.calls c.in_ok-read_line.ensures.calls;
}

pub returns-in_err-read_line-clause-cause : goal.returns-in_err-read_line-clause-cause
returns-in_err-read_line-clause-cause g c =
    let fault = err_from_is_err_and c.from_residual.result c.from_residual.ensures.1 in
    rw (fault.1, fault.2)
    (cause_on (g.R.CountedRead.calls c.args.reader.now) (g.R.CountedRead.calls c.loop-line.reader) (g.R.CountedRead.calls c.read_line.new.reader)
    c.in_err-read_line.field-0.0 c.loop-line.invariant.calls c.in_err-read_line.ensures.cause)

pub returns-in_err-add_line-in-Text-clause-cause : goal.returns-in_err-add_line-in-Text-clause-cause
returns-in_err-add_line-in-Text-clause-cause g c =
    let fault = err_from_is_err_and c.from_residual-in_err-add_line-in-Text.result c.from_residual-in_err-add_line-in-Text.ensures.1 in
    rw (fault.1, fault.2)
    (room_cause (between (g.R.CountedRead.calls c.args.reader.now) (g.R.CountedRead.calls c.read_line.new.reader))
    c.in_err-add_line-in-Text.field-0.0 c.in_err-add_line-in-Text.ensures.fault
    (no_more_fail (g.R.CountedRead.calls c.args.reader.now) (g.R.CountedRead.calls c.loop-line.reader)
    (g.R.CountedRead.calls c.read_line.new.reader) c.loop-line.invariant.calls c.in_ok-read_line.ensures.calls))

pub returns-in_err-read_line-clause-too_long : goal.returns-in_err-read_line-clause-too_long
returns-in_err-read_line-clause-too_long g c =
    let fault = err_from_is_err_and c.from_residual.result c.from_residual.ensures.1 in
    rw (fault.1, fault.2) (λ is.
    long_behind (prepend_known c.args.self.now.lines (g.R.CountedRead.remaining c.args.reader.now))
    (prepend_known c.loop-line.self.lines (g.R.CountedRead.remaining c.loop-line.reader)) c.loop-line.text.items c.loop-line.invariant.taken
    (c.in_err-read_line.ensures.too_long is))

pub returns-in_err-add_line-in-Text-clause-too_long : goal.returns-in_err-add_line-in-Text-clause-too_long
returns-in_err-add_line-in-Text-clause-too_long g c =
    let fault = err_from_is_err_and c.from_residual-in_err-add_line-in-Text.result c.from_residual-in_err-add_line-in-Text.ensures.1 in
    let text =
    subst (λ (t : List ℕ). IsText t) c.deref.ensures.value
    (text_kind c.deref.result.now (c.in-Text.ensures.head, c.in-Text.ensures.heading, c.in-Text.ensures.end)) in
    rw (fault.1, fault.2) (λ is.
    long_taken (prepend_known c.args.self.now.lines (g.R.CountedRead.remaining c.args.reader.now))
    (prepend_known c.read_line.new.self.lines (g.R.CountedRead.remaining c.read_line.new.reader))
    (c.loop-line.text.items ++ line c.read_line.new.self.line.items)
    (taken_on (prepend_known c.args.self.now.lines (g.R.CountedRead.remaining c.args.reader.now))
    (prepend_known c.loop-line.self.lines (g.R.CountedRead.remaining c.loop-line.reader))
    (prepend_known c.read_line.new.self.lines (g.R.CountedRead.remaining c.read_line.new.reader)) c.loop-line.text.items
    (line c.read_line.new.self.line.items) c.loop-line.invariant.taken c.in_ok-read_line.ensures.bytes)
    (ledger_on c.loop-line.text.items c.read_line.new.self.line.items c.loop-line.invariant.ledger (c.read_line.ensures.line, text))
    (line_length c.loop-line.text.items c.read_line.new.self.line.items
    (omega (arith, c.loop-line.text.ok.0, ap length c.deref-in-Text.ensures.value, c.in_err-add_line-in-Text.ensures.too_long is))))
