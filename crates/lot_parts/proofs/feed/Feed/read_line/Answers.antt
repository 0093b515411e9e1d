-- A fault of the line is one of the dump.
use Rattle.std.proofs.Common.{◌≡◌, Err, ap}
use Rattle.std.specs.Io.KnownBytes.{prepend_known}
use Rattle.std.proofs.lemmas.Result.{err_from_is_err_and}
use Rattle.lot_dump.proofs.LineLemmas.{between}
use Rattle.lot_parts.proofs.ReadLemmas.{line_cause, line_says, line_too_long, long_line}
use Rattle.lot_parts.specs.Fault.{fault_of_line}
use Rattle.lot_parts.specs.declared.fault.DumpFault.TheVariants.{TooLong}
use Rattle.lot_parts.proofs.feed.Feed.read_line.Goals as goal

pub returns-in_err-next_line-clause-cause : goal.returns-in_err-next_line-clause-cause
returns-in_err-next_line-clause-cause g c =
    let fault = err_from_is_err_and c.from_residual.result c.from_residual.ensures.1 in
    rw (fault.1, fault.2)
    (line_cause (between (g.R.CountedRead.calls c.args.reader.now) (g.R.CountedRead.calls c.next_line.new.reader)) c.in_err-next_line.field-0.0
    c.in_err-next_line.ensures.cause)

pub returns-in_err-next_line-clause-too_long : goal.returns-in_err-next_line-clause-too_long
returns-in_err-next_line-clause-too_long g c =
    let fault = err_from_is_err_and c.from_residual.result c.from_residual.ensures.1 in
    rw (fault.1, fault.2) (λ is.
    let this : fault_of_line c.in_err-next_line.field-0.0 ≡ TooLong = cc in
    long_line (prepend_known c.args.self.now.lines (g.R.CountedRead.remaining c.args.reader.now))
    (c.in_err-next_line.ensures.too_long (ap Err (line_too_long c.in_err-next_line.field-0.0 this))))

pub returns-in_err-next_line-clause-no_dump : goal.returns-in_err-next_line-clause-no_dump
returns-in_err-next_line-clause-no_dump g c =
    let fault = err_from_is_err_and c.from_residual.result c.from_residual.ensures.1 in
    rw (fault.1, fault.2) (line_says _ c.in_err-next_line.field-0.0)
