-- The call is the one that was made.
use Rattle.std.proofs.Common.{◌≡◌, ◌≢◌, rules}
use Rattle.std.specs.IoError.{error_kind}
use Rattle.std.specs.declared.io.ErrorKind.{ErrorKind}
use Rattle.lot_dump.proofs.LineLemmas.{failed_call, gave_call, one_call, paused_call}
use Rattle.lot_dump.proofs.lines.LineReader.fill.Goals as goal

pub returns-in-Ok-eq0-clause-calls : goal.returns-in-Ok-eq0-clause-calls
returns-in-Ok-eq0-clause-calls g c =
    one_call _ _ c.read_counted.result 0 c.read_counted.ensures.calls (gave_call c.read_counted.result c.in-Ok-eq0.field-0 c.in-Ok-eq0.is)

pub returns-in-Ok-clause-calls : goal.returns-in-Ok-clause-calls
returns-in-Ok-clause-calls g c =
    one_call _ _ c.read_counted.result 0 c.read_counted.ensures.calls (gave_call c.read_counted.result c.in-Ok.count c.in-Ok.is)

pub returns-in-Err-clause-calls : goal.returns-in-Err-clause-calls
returns-in-Err-clause-calls g c =
    let kind : error_kind c.in-Err.error ≡ ErrorKind.Interrupted = search rules in
    one_call _ _ c.read_counted.result 0 c.read_counted.ensures.calls (paused_call c.read_counted.result c.in-Err.error c.in-Err.is kind)

pub returns-in-Err-2-clause-failed : goal.returns-in-Err-2-clause-failed
returns-in-Err-2-clause-failed g c =
    let kind : error_kind c.in-Err.error ≢ ErrorKind.Interrupted = search rules in
    one_call _ _ c.read_counted.result 1 c.read_counted.ensures.calls (failed_call c.read_counted.result c.in-Err.error c.in-Err.is kind)
