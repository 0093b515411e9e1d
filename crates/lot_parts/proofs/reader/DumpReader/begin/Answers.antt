-- The head and the text above the first entry are taken, and hashed.
use Rattle.std.proofs.Common.{arith, ◌≡◌, ◌++◌, ◌∙◌, List, ℕ, [], Err, Option, ap, refl, subst}
use Rattle.std.specs.Prelude.{IfSome}
use Rattle.std.specs.Io.KnownBytes.{Consumes, prepend_known}
use Rattle.std.proofs.lemmas.Result.{err_from_is_err_and}
use Rattle.sha2.specs.Hashers.{Holds256}
use Rattle.lot_report.specs.Printed.{line}
use Rattle.lot_dump.specs.Form.{head_text}
use Rattle.lot_parts.specs.Reading.{HasLong}
use Rattle.lot_parts.specs.declared.fault.DumpFault.TheVariants.{TooLong}
use Rattle.lot_parts.proofs.ReadLemmas.{cause_on, long_behind, no_calls_fail, no_more_fail, says_on}
use Rattle.lot_parts.proofs.CountLemmas.{lines_both, one_line}
use Rattle.lot_parts.proofs.LineLemmas.{head_line}
use Rattle.lot_parts.proofs.StepLemmas.{begun, no_dump_below, none_ahead, no_head_dump}
use Rattle.lot_parts.proofs.reader.DumpReader.begin.Goals as goal

pub returns-in_err-head-clause-no_dump : goal.returns-in_err-head-clause-no_dump
returns-in_err-head-clause-no_dump g c =
    let fault = err_from_is_err_and c.from_residual-in_err-head.result c.from_residual-in_err-head.ensures.1 in
    rw (fault.1, fault.2)
    (says_on _ _ c.in_err-head.field-0.0 (λ number says.
    no_head_dump (g.R.CountedRead.remaining c.args.reader.now) c.in_ok-feed.feed.lines number c.in_ok-feed.ensures.lines says)
    c.in_err-head.ensures.no_dump)

pub returns-in_err-read_text-clause-no_dump : goal.returns-in_err-read_text-clause-no_dump
returns-in_err-read_text-clause-no_dump g c =
    let fault = err_from_is_err_and c.from_residual-in_err-read_text.result c.from_residual-in_err-read_text.ensures.1 in
    rw (fault.1, fault.2)
    (says_on _ _ c.in_err-read_text.field-0.0 (λ number says.
    no_dump_below (g.R.CountedRead.remaining c.args.reader.now)
    (prepend_known c.read_head.new.self.lines (g.R.CountedRead.remaining c.read_head.new.reader)) c.in_ok-feed.feed.lines
    c.read_head.new.self.line.items c.in_ok-head.head number c.read_head.new.self.count c.in_ok-feed.ensures.lines c.in_ok-head.ensures.bytes
    c.in_ok-head.ensures.head.1 c.in_ok-head.ensures.head.0 c.in_ok-head.ensures.count says) c.in_err-read_text.ensures.no_dump)

pub returns-clause-begins : goal.returns-clause-begins
returns-clause-begins g c =
    let heard : line c.deref.result.now ++ c.as_slice.result.now ≡ line (head_text c.in_ok-head.head) ++ c.read_text.new.text.items =
    ap (λ (t : List ℕ). line t ++ c.as_slice.result.now) (c.deref.ensures.value ∙ c.in_ok-head.ensures.head.1)
    ∙ ap (λ (t : List ℕ). line (head_text c.in_ok-head.head) ++ t) c.as_slice.ensures.value in (
      c.in_ok-head.ensures.head.0,
      c.in_ok-read_text.ensures.ledger,
      begun (g.R.CountedRead.remaining c.args.reader.now)
          (prepend_known c.read_head.new.self.lines (g.R.CountedRead.remaining c.read_head.new.reader))
          (g.R.CountedRead.remaining c.read_text.new.reader) c.in_ok-feed.feed.lines c.read_head.new.self.line.items c.read_text.new.text.items
          c.read_text.new.self.line.items c.read_text.new.self.lines c.in_ok-head.head c.in_ok-feed.ensures.lines c.in_ok-head.ensures.bytes
          c.in_ok-head.ensures.head.1 c.in_ok-read_text.ensures.bytes,
      (c.read_text.new.self.line.items, c.read_text.new.self.lines, c.read_text.ensures.line, c.in_ok-read_text.ensures.other, refl),
      subst (λ (m : List ℕ). Holds256 c.update.new.self m) heard (c.update.ensures _ (c.hear_line.ensures [] c.new-hasher.ensures)),
      refl,
      refl,
      let both = lines_both (line (head_text c.in_ok-head.head)) c.read_text.new.text.items in
          let one = one_line (head_text c.in_ok-head.head) (head_line c.in_ok-head.head c.in_ok-head.ensures.head.0) in
          omega (arith, both, one, c.in_ok-head.ensures.count, c.in_ok-read_text.ensures.count),
    )

pub returns-clause-calls : goal.returns-clause-calls
returns-clause-calls g c =
    no_more_fail (g.R.CountedRead.calls c.args.reader.now) (g.R.CountedRead.calls c.read_head.new.reader)
    (g.R.CountedRead.calls c.read_text.new.reader) c.in_ok-head.ensures.calls c.in_ok-read_text.ensures.calls

pub returns-in_err-read_text-clause-cause : goal.returns-in_err-read_text-clause-cause
returns-in_err-read_text-clause-cause g c =
    let fault = err_from_is_err_and c.from_residual-in_err-read_text.result c.from_residual-in_err-read_text.ensures.1 in
    rw (fault.1, fault.2)
    (cause_on (g.R.CountedRead.calls c.args.reader.now) (g.R.CountedRead.calls c.read_head.new.reader)
    (g.R.CountedRead.calls c.read_text.new.reader) c.in_err-read_text.field-0.0 c.in_ok-head.ensures.calls c.in_err-read_text.ensures.cause)

pub returns-in_err-feed-clause-cause : goal.returns-in_err-feed-clause-cause
returns-in_err-feed-clause-cause g c =
    let fault = err_from_is_err_and c.from_residual.result c.from_residual.ensures.1 in
    rw (fault.1, fault.2) (no_calls_fail (g.R.CountedRead.calls c.args.reader.now))

pub returns-in_err-head-clause-too_long : goal.returns-in_err-head-clause-too_long
returns-in_err-head-clause-too_long g c =
    let fault = err_from_is_err_and c.from_residual-in_err-head.result c.from_residual-in_err-head.ensures.1 in
    rw (fault.1, fault.2) (λ is.
    let this : c.in_err-head.field-0.0 ≡ TooLong = cc in
    subst (λ (o : Option (List ℕ)). IfSome o HasLong)
    (none_ahead c.in_ok-feed.feed.lines (g.R.CountedRead.remaining c.args.reader.now) c.in_ok-feed.ensures.lines)
    (c.in_err-head.ensures.too_long (ap Err this)))

pub returns-in_err-read_text-clause-too_long : goal.returns-in_err-read_text-clause-too_long
returns-in_err-read_text-clause-too_long g c =
    let fault = err_from_is_err_and c.from_residual-in_err-read_text.result c.from_residual-in_err-read_text.ensures.1 in
    rw (fault.1, fault.2) (λ is.
    let this : c.in_err-read_text.field-0.0 ≡ TooLong = cc in
    long_behind (g.R.CountedRead.remaining c.args.reader.now)
    (prepend_known c.read_head.new.self.lines (g.R.CountedRead.remaining c.read_head.new.reader)) (line c.read_head.new.self.line.items)
    (subst (λ (o : Option (List ℕ)). Consumes o (prepend_known c.read_head.new.self.lines (g.R.CountedRead.remaining c.read_head.new.reader)) (line c.read_head.new.self.line.items))
    (none_ahead c.in_ok-feed.feed.lines (g.R.CountedRead.remaining c.args.reader.now) c.in_ok-feed.ensures.lines) c.in_ok-head.ensures.bytes)
    (c.in_err-read_text.ensures.too_long (ap Err this)))
