-- The line that is ahead says which step comes next.
use Rattle.std.proofs.Common.{arith, Err, ◌≡◌, ◌≤◌, ◌+◌, ◌++◌, ◌∙◌, List, ℕ, Option, ap, refl, subst, sym, append_assoc}
use Rattle.std.specs.Prelude.{IfSome}
use Rattle.std.proofs.lemmas.Result.{err_from_is_err_and}
use Rattle.sha2.specs.Hashers.{Holds256}
use Rattle.sha2.specs.declared.Sha256.{Sha256}
use Rattle.lot_report.specs.Printed.{line}
use Rattle.lot_io.specs.Reads.{counted}
use Rattle.lot_dump.specs.Form.{IsHeading, heading_text}
use Rattle.lot_dump.specs.declared.heading.Heading.{Heading}
use Rattle.lot_parts.specs.Reading.{Reading}
use Rattle.lot_parts.specs.declared.fault.DumpFault.TheVariants.{TooLong}
use Rattle.lot_parts.proofs.ReadLemmas.{long_ahead, no_calls_fail, says_on}
use Rattle.lot_parts.proofs.CountLemmas.{lines_both, one_line}
use Rattle.lot_parts.proofs.LineLemmas.{heading_line}
use Rattle.lot_parts.proofs.StepLemmas.{entered, no_end_here, number_falls, text_endless}
use Rattle.lot_parts.proofs.reader.DumpReader.next.Goals as goal

pub returns-in-Some-clause-no_dump : goal.returns-in-Some-clause-no_dump
returns-in-Some-clause-no_dump g c =
    let says =
    subst (λ (r : Option Heading). IfSome r (λ h. IsHeading h × (c.deref.result.now ≡ heading_text h))) c.in-Some.is c.in_ok-heading.ensures.heading in
    number_falls c.args.self.now.ahead c.self.inside.feed.line.items c.self.inside.feed.lines c.args.self.now.last c.args.self.now.line
    (ap (λ (r : Reading). r.ahead) c.self.view_is) c.self.invariant (g.R.CountedRead.remaining c.args.reader.now) c.self.inside.feed.count c.in-Some.heading
    c.self.inside.last (ap (λ (r : Reading). r.line) c.self.view_is) says.0 (sym c.deref.ensures.value ∙ says.1) c.if-branch-self.true (ap (λ (r : Reading). r.last) c.self.view_is)

pub returns-in_err-read_text-in-Some-2-clause-no_dump : goal.returns-in_err-read_text-in-Some-2-clause-no_dump
returns-in_err-read_text-in-Some-2-clause-no_dump g c =
    let says =
    subst (λ (r : Option Heading). IfSome r (λ h. IsHeading h × (c.deref.result.now ≡ heading_text h))) c.in-Some.is c.in_ok-heading.ensures.heading in
    let fault =
    err_from_is_err_and c.from_residual-in_err-read_text-in-Some-2.result c.from_residual-in_err-read_text-in-Some-2.ensures.1 in
    rw (fault.1, fault.2)
    (says_on _ _ c.in_err-read_text-in-Some-2.field-0.0 (λ number no.
    text_endless c.args.self.now.ahead c.self.inside.feed.line.items c.self.inside.feed.lines c.args.self.now.last c.args.self.now.line
    (ap (λ (r : Reading). r.ahead) c.self.view_is) c.self.invariant (g.R.CountedRead.remaining c.args.reader.now) number c.self.inside.feed.count
    c.self.inside.last c.in-Some.heading (ap (λ (r : Reading). r.line) c.self.view_is) (ap (λ (r : Reading). r.last) c.self.view_is)
    c.if-branch-self.false says.0 (sym c.deref.ensures.value ∙ says.1) no) c.in_err-read_text-in-Some-2.ensures.no_dump)

pub returns-in_err-end-in-None-clause-no_dump : goal.returns-in_err-end-in-None-clause-no_dump
returns-in_err-end-in-None-clause-no_dump g c =
    let fault = err_from_is_err_and c.from_residual-in_err-end-in-None.result c.from_residual-in_err-end-in-None.ensures.1 in
    rw (fault.1, fault.2)
    (says_on _ _ c.in_err-end-in-None.field-0.0 (λ number no.
    no_end_here c.args.self.now.ahead c.self.inside.feed.line.items c.self.inside.feed.lines c.args.self.now.last c.args.self.now.line
    (ap (λ (r : Reading). r.ahead) c.self.view_is) c.self.invariant (g.R.CountedRead.remaining c.args.reader.now) number c.self.inside.feed.count
    (ap (λ (r : Reading). r.line) c.self.view_is)
    (λ heading is same. let found = c.in_ok-heading.ensures.every heading is (c.deref.ensures.value ∙ same) in let none = c.in-None.is in cc)
    no) c.in_err-end-in-None.ensures.no_dump)

pub returns-in_ok-read_text-in-Some-2-clause-bytes : goal.returns-in_ok-read_text-in-Some-2-clause-bytes
returns-in_ok-read_text-in-Some-2-clause-bytes g c =
    let says =
    subst (λ (r : Option Heading). IfSome r (λ h. IsHeading h × (c.deref.result.now ≡ heading_text h))) c.in-Some.is c.in_ok-heading.ensures.heading in
    entered (g.R.CountedRead.remaining c.args.reader.now) (g.R.CountedRead.remaining c.read_text.new.reader) c.args.self.now.ahead
    c.self.inside.feed.line.items c.self.inside.feed.lines c.read_text.new.text.items c.read_text.new.self.line.items
    c.read_text.new.self.lines c.in-Some.heading (ap (λ (r : Reading). r.ahead) c.self.view_is) (sym c.deref.ensures.value ∙ says.1)
    c.in_ok-read_text-in-Some-2.ensures.bytes

pub returns-in_ok-read_text-in-Some-2-clause-says : goal.returns-in_ok-read_text-in-Some-2-clause-says
returns-in_ok-read_text-in-Some-2-clause-says g c =
    let says =
    subst (λ (r : Option Heading). IfSome r (λ h. IsHeading h × (c.deref.result.now ≡ heading_text h))) c.in-Some.is c.in_ok-heading.ensures.heading in
    let heard : (message : List ℕ) → (message ++ line c.deref-in-Some-2.result.now) ++ c.as_slice.result.now
    ≡ message ++ (line (heading_text c.in-Some.heading) ++ c.read_text.new.text.items) =
    λ message.
    append_assoc message (line c.deref-in-Some-2.result.now) c.as_slice.result.now
    ∙ ap (λ (t : List ℕ). message ++ (line t ++ c.as_slice.result.now)) (c.deref-in-Some-2.ensures.value ∙ sym c.deref.ensures.value ∙ says.1)
    ∙ ap (λ (t : List ℕ). message ++ (line (heading_text c.in-Some.heading) ++ t)) c.as_slice.ensures.value in (
      (
        subst (λ (n : ℕ). n ≤ c.in-Some.heading.number) (ap (λ (r : Reading). r.last) c.self.view_is) c.if-branch-self.false,
        says.0,
        c.in_ok-read_text-in-Some-2.ensures.ledger,
        tt,
      ),
      λ message holds.
          subst (λ (m : List ℕ). Holds256 c.update.new.self m) (heard message)
          (c.update.ensures _ (c.hear_line.ensures message (subst (λ (h : Sha256). Holds256 h message) (sym (ap (λ (r : Reading). r.hasher) c.self.view_is)) holds))),
      (
        c.read_text.new.self.line.items,
        c.read_text.new.self.lines,
        c.read_text.ensures.line,
        c.in_ok-read_text-in-Some-2.ensures.other,
        refl,
      ),
      refl,
      c.saturating_add-self-inside.ensures ∙ ap (λ (r : Reading). counted (r.headings + 1)) c.self.view_is,
      let both = lines_both (line (heading_text c.in-Some.heading)) c.read_text.new.text.items in
          let one = one_line (heading_text c.in-Some.heading) (heading_line c.in-Some.heading says.0) in
          omega (arith, both, one, c.in_ok-read_text-in-Some-2.ensures.count, ap (λ (r : Reading). r.line) c.self.view_is),
    )

pub returns-in-Some-clause-cause : goal.returns-in-Some-clause-cause
returns-in-Some-clause-cause g c = no_calls_fail (g.R.CountedRead.calls c.args.reader.now)

pub returns-in_err-heading-clause-cause : goal.returns-in_err-heading-clause-cause
returns-in_err-heading-clause-cause g c =
    let fault = err_from_is_err_and c.from_residual.result c.from_residual.ensures.1 in
    rw (fault.1, fault.2) (no_calls_fail (g.R.CountedRead.calls c.args.reader.now))

pub returns-in_err-read_text-in-Some-2-clause-too_long : goal.returns-in_err-read_text-in-Some-2-clause-too_long
returns-in_err-read_text-in-Some-2-clause-too_long g c =
    let fault = err_from_is_err_and c.from_residual-in_err-read_text-in-Some-2.result c.from_residual-in_err-read_text-in-Some-2.ensures.1 in
    rw (fault.1, fault.2) (λ is.
    let this : c.in_err-read_text-in-Some-2.field-0.0 ≡ TooLong = cc in
    long_ahead (g.R.CountedRead.remaining c.args.reader.now) (line c.self.inside.feed.line.items) c.self.inside.feed.lines c.args.self.now.ahead
    (ap (λ (r : Reading). r.ahead) c.self.view_is) (c.in_err-read_text-in-Some-2.ensures.too_long (ap Err this)))

pub returns-in_err-end-in-None-clause-too_long : goal.returns-in_err-end-in-None-clause-too_long
returns-in_err-end-in-None-clause-too_long g c =
    let fault = err_from_is_err_and c.from_residual-in_err-end-in-None.result c.from_residual-in_err-end-in-None.ensures.1 in
    rw (fault.1, fault.2) (λ is.
    let this : c.in_err-end-in-None.field-0.0 ≡ TooLong = cc in
    long_ahead (g.R.CountedRead.remaining c.args.reader.now) (line c.self.inside.feed.line.items) c.self.inside.feed.lines c.args.self.now.ahead
    (ap (λ (r : Reading). r.ahead) c.self.view_is) (c.in_err-end-in-None.ensures.too_long (ap Err this)))
