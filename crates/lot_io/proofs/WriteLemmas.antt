-- What one call of `write` comes to.
use Rattle.std.proofs.Common.{◌≡◌, ◌<◌, inl, inr, ℕ}
use Rattle.std.specs.Prelude.{◌≢◌, IsFalse, IsTrue, Result, Ok, Err}
use Rattle.std.specs.IoError.{error_kind}
use Rattle.std.specs.declared.io.Error.{Error}
use Rattle.std.specs.declared.io.ErrorKind.{ErrorKind}
use Rattle.lot_io.specs.Writes.{MarksWrite, WriteCalls}

module _ (old new : WriteCalls) (outcome : Result ℕ Error) where
  -- it took nothing
  pub marks_none : (taken : ℕ) → outcome ≡ Ok taken → taken ≡ 0 → IsTrue new.has_failed → new.is_flushed ≡ old.is_flushed
      → MarksWrite old new outcome
  marks_none taken is none failed same = rw (is) (inl (none, failed, same))

  -- it took some bytes
  pub marks_some : (taken : ℕ) → outcome ≡ Ok taken → 0 < taken → new.has_failed ≡ old.has_failed → IsFalse new.is_flushed
      → MarksWrite old new outcome
  marks_some taken is some same unflushed = rw (is) (inr (some, same, unflushed))

  -- it was interrupted
  pub marks_paused : (error : Error) → outcome ≡ Err error → error_kind error ≡ ErrorKind.Interrupted → new.has_failed ≡ old.has_failed
      → new.is_flushed ≡ old.is_flushed → MarksWrite old new outcome
  marks_paused error is kind same flushed = rw (is) (inl (kind, same), flushed)

  -- it met another error
  pub marks_failed : (error : Error) → outcome ≡ Err error → error_kind error ≢ ErrorKind.Interrupted → IsTrue new.has_failed
      → new.is_flushed ≡ old.is_flushed → MarksWrite old new outcome
  marks_failed error is kind failed flushed = rw (is) (inr (kind, failed), flushed)
