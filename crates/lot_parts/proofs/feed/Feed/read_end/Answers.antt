-- Whatever line comes behind, the end isn't all that was left.
use Rattle.std.proofs.Common.{◌≡◌, ◌∙◌, Err, Option, ap, inl, inr, refl, subst, sym}
use Rattle.std.specs.Prelude.{IfSome}
use Rattle.lot_dump.specs.Form.{IsEnd, end_text}
use Rattle.lot_dump.specs.declared.end.End.{End}
use Rattle.std.specs.Io.KnownBytes.{prepend_known}
use Rattle.std.proofs.lemmas.Result.{err_from_is_err_and}
use Rattle.lot_dump.proofs.LineLemmas.{between}
use Rattle.lot_parts.proofs.ReadLemmas.{line_cause, line_says, line_too_long, long_line, more_behind, no_calls_fail}
use Rattle.lot_parts.specs.Fault.{fault_of_line}
use Rattle.lot_parts.specs.declared.fault.DumpFault.TheVariants.{TooLong}
use Rattle.lot_parts.proofs.feed.Feed.read_end.Goals as goal

pub returns-in-Some-2-clause-no_dump : goal.returns-in-Some-2-clause-no_dump
returns-in-Some-2-clause-no_dump g c =
    let says =
    subst (λ (r : Option End). IfSome r (λ end. IsEnd end × (c.deref.result.now ≡ end_text end))) c.in-Some.is c.read_end.ensures.end in
    inr (
      (
        (c.in-Some.end, says.0, sym c.deref.ensures.value ∙ says.1),
        more_behind (prepend_known c.args.self.now.lines (g.R.CountedRead.remaining c.args.reader.now))
            (prepend_known c.next_line.new.self (g.R.CountedRead.remaining c.next_line.new.reader)) c.next_line.new.line.items
            c.in_ok-next_line.field-0 c.in-Some-2.field-0 c.in-Some-2.is c.in_ok-next_line.ensures.bytes c.in_ok-next_line.ensures.end,
      ),
      c.saturating_add-self.ensures,
    )

pub returns-in_err-next_line-clause-no_dump : goal.returns-in_err-next_line-clause-no_dump
returns-in_err-next_line-clause-no_dump g c =
    let fault = err_from_is_err_and c.from_residual.result c.from_residual.ensures.1 in
    rw (fault.1, fault.2) (line_says _ c.in_err-next_line.field-0.0)

pub returns-in_default-clause-no_dump : goal.returns-in_default-clause-no_dump
returns-in_default-clause-no_dump g c =
    inl (λ end is same. let found = c.read_end.ensures.every end is (c.deref.ensures.value ∙ same) in let none = c.in_default.is in cc, refl)

pub returns-in_err-next_line-clause-cause : goal.returns-in_err-next_line-clause-cause
returns-in_err-next_line-clause-cause g c =
    let fault = err_from_is_err_and c.from_residual.result c.from_residual.ensures.1 in
    rw (fault.1, fault.2)
    (line_cause (between (g.R.CountedRead.calls c.args.reader.now) (g.R.CountedRead.calls c.next_line.new.reader)) c.in_err-next_line.field-0.0
    c.in_err-next_line.ensures.cause)

pub returns-in_default-clause-cause : goal.returns-in_default-clause-cause
returns-in_default-clause-cause g c = no_calls_fail (g.R.CountedRead.calls c.args.reader.now)

pub returns-in_err-next_line-clause-too_long : goal.returns-in_err-next_line-clause-too_long
returns-in_err-next_line-clause-too_long g c =
    let fault = err_from_is_err_and c.from_residual.result c.from_residual.ensures.1 in
    rw (fault.1, fault.2) (λ is.
    let this : fault_of_line c.in_err-next_line.field-0.0 ≡ TooLong = cc in
    long_line (prepend_known c.args.self.now.lines (g.R.CountedRead.remaining c.args.reader.now))
    (c.in_err-next_line.ensures.too_long (ap Err (line_too_long c.in_err-next_line.field-0.0 this))))
