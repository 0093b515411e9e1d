-- The first line is no head of this format.
use Rattle.std.proofs.Common.{◌≡◌, ◌∙◌, Err, ap, refl, subst}
use Rattle.std.specs.Io.KnownBytes.{prepend_known}
use Rattle.std.proofs.lemmas.Result.{err_from_is_err_and}
use Rattle.lot_dump.specs.Form.{IsNewer}
use Rattle.lot_parts.specs.Fault.{fault_of_head}
use Rattle.lot_parts.specs.declared.fault.DumpFault.TheVariants.{NewerFormat}
use Rattle.lot_dump.proofs.LineLemmas.{between}
use Rattle.lot_parts.proofs.ReadLemmas.{begins_newer, head_cause, head_says_none, newer_head, no_head}
use Rattle.lot_parts.proofs.feed.Feed.read_head.Goals as goal

pub returns-in_err-read_head-clause-no_dump : goal.returns-in_err-read_head-clause-no_dump
returns-in_err-read_head-clause-no_dump g c =
    let fault = err_from_is_err_and c.from_residual-in_err-read_head.result c.from_residual-in_err-read_head.ensures.1 in
    rw (fault.1, fault.2) (head_says_none _ c.in_err-read_head.field-0.0 (λ none. (
      refl,
      no_head (prepend_known c.args.self.now.lines (g.R.CountedRead.remaining c.args.reader.now))
          (prepend_known c.read_line.new.self.lines (g.R.CountedRead.remaining c.read_line.new.reader)) c.read_line.new.self.line.items
          c.in_ok-read_line.ensures.bytes c.read_line.ensures.line (λ head is_head same.
          let read = c.in_err-read_head.ensures.every head is_head (c.deref.ensures.value ∙ same) in cc),
    )))

pub returns-in_err-read_head-clause-newer : goal.returns-in_err-read_head-clause-newer
returns-in_err-read_head-clause-newer g c =
    let fault = err_from_is_err_and c.from_residual-in_err-read_head.result c.from_residual-in_err-read_head.ensures.1 in
    rw (fault.1, fault.2) (λ newer.
    let this : fault_of_head c.in_err-read_head.field-0.0 ≡ NewerFormat = cc in
    begins_newer (prepend_known c.args.self.now.lines (g.R.CountedRead.remaining c.args.reader.now))
    (prepend_known c.read_line.new.self.lines (g.R.CountedRead.remaining c.read_line.new.reader)) c.read_line.new.self.line.items
    c.in_ok-read_line.ensures.bytes
    (subst IsNewer c.deref.ensures.value (c.in_err-read_head.ensures.newer.0 (ap Err (newer_head c.in_err-read_head.field-0.0 this)))))

pub returns-in_err-read_head-clause-cause : goal.returns-in_err-read_head-clause-cause
returns-in_err-read_head-clause-cause g c =
    let fault = err_from_is_err_and c.from_residual-in_err-read_head.result c.from_residual-in_err-read_head.ensures.1 in
    rw (fault.1, fault.2)
    (head_cause (between (g.R.CountedRead.calls c.args.reader.now) (g.R.CountedRead.calls c.read_line.new.reader)) c.in_err-read_head.field-0.0
    c.in_ok-read_line.ensures.calls)
