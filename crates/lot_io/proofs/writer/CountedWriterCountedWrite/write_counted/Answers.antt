-- What is known goes on by the call.
use Rattle.std.proofs.Common.{◌≡◌, ◌≢◌, ◌<◌, arith, refl, rules}
use Rattle.std.specs.Prelude.{true, false}
use Rattle.std.specs.IoError.{error_kind}
use Rattle.std.specs.declared.io.ErrorKind.{ErrorKind}
use Rattle.lot_io.proofs.WriteLemmas.{marks_failed, marks_none, marks_paused, marks_some}
use Rattle.lot_io.proofs.writer.CountedWriterCountedWrite.write_counted.Goals as goal

pub returns-in-Ok-eq0-clause-calls : goal.returns-in-Ok-eq0-clause-calls
returns-in-Ok-eq0-clause-calls g c =
    let none : c.in-Ok-eq0.field-0 ≡ 0 = search rules in (
      omega (arith, c.saturating_add-self.ensures),
      marks_none
          (record { made = c.args.self.now.made; has_failed = c.args.self.now.has_failed; is_flushed = c.args.self.now.is_flushed })
          (record { made = c.saturating_add-self.result; has_failed = true; is_flushed = c.args.self.now.is_flushed })
          c.write-outcome.result c.in-Ok-eq0.field-0 c.in-Ok-eq0.is none refl refl,
    )

pub returns-in-Ok-clause-calls : goal.returns-in-Ok-clause-calls
returns-in-Ok-clause-calls g c =
    let some : 0 < c.in-Ok.field-0 = search rules in (
      omega (arith, c.saturating_add-self.ensures),
      marks_some
          (record { made = c.args.self.now.made; has_failed = c.args.self.now.has_failed; is_flushed = c.args.self.now.is_flushed })
          (record { made = c.saturating_add-self.result; has_failed = c.args.self.now.has_failed; is_flushed = false })
          c.write-outcome.result c.in-Ok.field-0 c.in-Ok.is some refl refl,
    )

pub returns-in-Err-clause-calls : goal.returns-in-Err-clause-calls
returns-in-Err-clause-calls g c =
    let kind : error_kind c.in-Err.error ≡ ErrorKind.Interrupted = search rules in (
      omega (arith, c.saturating_add-self.ensures),
      marks_paused
          (record { made = c.args.self.now.made; has_failed = c.args.self.now.has_failed; is_flushed = c.args.self.now.is_flushed })
          (record { made = c.saturating_add-self.result; has_failed = c.args.self.now.has_failed; is_flushed = c.args.self.now.is_flushed })
          c.write-outcome.result c.in-Err.error c.in-Err.is kind refl refl,
    )

pub returns-in-Err-2-clause-calls : goal.returns-in-Err-2-clause-calls
returns-in-Err-2-clause-calls g c =
    let kind : error_kind c.in-Err.error ≢ ErrorKind.Interrupted = search rules in (
      omega (arith, c.saturating_add-self.ensures),
      marks_failed
          (record { made = c.args.self.now.made; has_failed = c.args.self.now.has_failed; is_flushed = c.args.self.now.is_flushed })
          (record { made = c.saturating_add-self.result; has_failed = true; is_flushed = c.args.self.now.is_flushed })
          c.write-outcome.result c.in-Err.error c.in-Err.is kind refl refl,
    )
