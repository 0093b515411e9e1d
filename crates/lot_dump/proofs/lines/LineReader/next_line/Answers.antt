-- Each time round takes what is ahead and calls the reader once more.
use Rattle.std.proofs.Common.{◌≡◌, ◌+◌, ℕ, List, arith, refl, subst, sym}
use Rattle.std.specs.Io.KnownBytes.{Consumes, prepend_known}
use Rattle.std.proofs.lemmas.Result.{err_from_is_err_and}
use Rattle.lot_syntax.specs.Line.{IsLine}
use Rattle.lot_dump.specs.declared.lines.LineFault.TheVariants.{TooLong}
use Rattle.lot_dump.proofs.LineLemmas.{ahead_cause, between, made_on, none_failed, none_made, nothing_taken, part_goes, part_line, read_cause, too_long_by}
use Rattle.lot_dump.proofs.lines.LineReader.next_line.Goals as goal

pub loop-made-init : goal.loop-made-init
loop-made-init g c = record {
  taken =
      subst (λ (t : List ℕ). Consumes (prepend_known c.args.self.now (g.R.CountedRead.remaining c.args.reader.now))
      (prepend_known c.args.self.now (g.R.CountedRead.remaining c.args.reader.now)) t) (sym c.clear.ensures.items) (nothing_taken _);
  calls = none_made (g.R.CountedRead.calls c.args.reader.now);
  small = omega (arith, c.clear.ensures.len);
  is_line = subst (λ (t : List ℕ). IsLine t) (sym c.clear.ensures.items) refl;
}

pub loop-made-preserved : goal.loop-made-preserved
loop-made-preserved g c = record {
  taken =
      part_goes _ _ c.loop-made.self c.loop-made.line.items _ _ c.loop-made.invariant.taken _ c.fill.new.self c.in_ok-take_ahead.field-0
      c.in-Part.is c.in_ok-take_ahead.ensures.takes c.fill.ensures.bytes;
  calls =
      made_on _ _ _ c.loop-made._made 0 1 0 c.loop-made.invariant.calls c.in_ok-fill.ensures.calls;
  small = c.take_ahead.ensures.limit;
  is_line =
      part_line c.loop-made.self c.loop-made.line.items _ _ c.in_ok-take_ahead.field-0 c.in-Part.is c.in_ok-take_ahead.ensures.takes
      c.loop-made.invariant.is_line;
}

pub returns-in_err-take_ahead-clause-too_long : goal.returns-in_err-take_ahead-clause-too_long
returns-in_err-take_ahead-clause-too_long g c =
    let fault = err_from_is_err_and c.from_residual.result c.from_residual.ensures.1 in
    rw (fault.1, fault.2) (λ is.
    let this : c.in_err-take_ahead.field-0.0 ≡ TooLong = cc in
    too_long_by (prepend_known c.args.self.now (g.R.CountedRead.remaining c.args.reader.now)) (g.R.CountedRead.remaining c.loop-made.reader)
    c.loop-made.self c.loop-made.line.items _ _ c.loop-made.invariant.taken c.in_err-take_ahead.field-0.0
    c.loop-made.invariant.is_line c.in_err-take_ahead.ensures.takes this)

pub returns-in_err-take_ahead-clause-cause : goal.returns-in_err-take_ahead-clause-cause
returns-in_err-take_ahead-clause-cause g c =
    let fault = err_from_is_err_and c.from_residual.result c.from_residual.ensures.1 in
    rw (fault.1, fault.2)
    (ahead_cause (between (g.R.CountedRead.calls c.args.reader.now) (g.R.CountedRead.calls c.loop-made.reader)) c.loop-made._made
    c.loop-made.self c.loop-made.line.items _ _ c.in_err-take_ahead.field-0.0 c.in_err-take_ahead.ensures.takes c.loop-made.invariant.calls)

pub returns-in_err-fill-clause-cause : goal.returns-in_err-fill-clause-cause
returns-in_err-fill-clause-cause g c =
    let fault = err_from_is_err_and c.from_residual-in_err-fill.result c.from_residual-in_err-fill.ensures.1 in
    rw (fault.1, fault.2)
    (read_cause (between (g.R.CountedRead.calls c.args.reader.now) (g.R.CountedRead.calls c.fill.new.reader)) (c.loop-made._made + 1)
    c.in_err-fill.field-0.0 c.in_err-fill.ensures.fills.1
    (made_on _ _ _ c.loop-made._made 0 1 1 c.loop-made.invariant.calls c.in_err-fill.ensures.failed))

pub returns-in-Ended-clause-calls : goal.returns-in-Ended-clause-calls
returns-in-Ended-clause-calls g c =
    none_failed _ _ _ (made_on _ _ _ c.loop-made._made 0 1 0 c.loop-made.invariant.calls c.in_ok-fill.ensures.calls)

pub returns-in-Ended-2-clause-calls : goal.returns-in-Ended-2-clause-calls
returns-in-Ended-2-clause-calls g c =
    none_failed _ _ _ (made_on _ _ _ c.loop-made._made 0 1 0 c.loop-made.invariant.calls c.in_ok-fill.ensures.calls)
