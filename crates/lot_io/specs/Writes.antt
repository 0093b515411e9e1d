-- What calls of a writer come to.
use Rattle.std.specs.Prelude.{◌≡◌, ◌≢◌, ◌⊎◌, ◌<◌, ◌≤◌, ◌+◌, ◌-◌, ◌^◌, ℕ, min, Bool, true, false, IsTrue, IsFalse, Option, None, Some, option_map, Result, Ok, Err, ⊤}
use Rattle.std.specs.IoError.{error_kind}
use Rattle.std.specs.declared.io.Error.{Error}
use Rattle.std.specs.declared.io.ErrorKind.{ErrorKind}

-- how many calls of `write` were made, whether a call failed, and whether nothing was taken since the last flush that succeeded
pub record WriteCalls : Type 0 where
  pub made : ℕ
  pub has_failed : Bool
  pub is_flushed : Bool

-- no call was made
abbrev pub no_writes : WriteCalls
no_writes = record { made = 0; has_failed = false; is_flushed = true }

-- the most calls of `write` that are counted, and that are made for one text
abbrev pub most_calls : ℕ
most_calls = 2 ^ 64 - 1

-- ---- one call

-- What a call of `write` of at least one byte comes to. It failed, where it took nothing; or it took bytes, which aren't flushed
-- then. A call that met an error was interrupted, and may be made again; or it failed.
abbrev pub MarksWrite : WriteCalls → WriteCalls → Result ℕ Error → Type 0
MarksWrite old new (Ok taken) =
    ((taken ≡ 0) × IsTrue new.has_failed × (new.is_flushed ≡ old.is_flushed))
    ⊎ ((0 < taken) × (new.has_failed ≡ old.has_failed) × IsFalse new.is_flushed)
MarksWrite old new (Err error) =
    (((error_kind error ≡ ErrorKind.Interrupted) × (new.has_failed ≡ old.has_failed))
    ⊎ ((error_kind error ≢ ErrorKind.Interrupted) × IsTrue new.has_failed))
    × (new.is_flushed ≡ old.is_flushed)

-- what a call of `flush` comes to: all is flushed, or it failed
abbrev pub MarksFlush : WriteCalls → WriteCalls → Result (Unit {0}) Error → Type 0
MarksFlush old new (Ok done) = (new.has_failed ≡ old.has_failed) × IsTrue new.is_flushed
MarksFlush old new (Err error) = IsTrue new.has_failed × (new.is_flushed ≡ old.is_flushed)

-- what all calls came to before a call of `write` with that outcome, and after it: that is known of all calls, or of none
abbrev pub CountsWrite : Option WriteCalls → Option WriteCalls → Result ℕ Error → Type 0
CountsWrite None None outcome = ⊤
CountsWrite None (Some new) outcome = ⊥
CountsWrite (Some old) None outcome = ⊥
CountsWrite (Some old) (Some new) outcome = (new.made ≡ min (old.made + 1) most_calls) × MarksWrite old new outcome

-- the same of a call of `flush`
abbrev pub CountsFlush : Option WriteCalls → Option WriteCalls → Result (Unit {0}) Error → Type 0
CountsFlush None None outcome = ⊤
CountsFlush None (Some new) outcome = ⊥
CountsFlush (Some old) None outcome = ⊥
CountsFlush (Some old) (Some new) outcome = (new.made ≡ old.made) × MarksFlush old new outcome

-- ---- all calls, where it is known what they came to

-- a call failed, or as many were made as are made for one text
abbrev pub HasFailed : Option WriteCalls → Type 0
HasFailed None = ⊤
HasFailed (Some calls) = IsTrue calls.has_failed ⊎ (most_calls ≤ calls.made)

-- whether a call failed, where it is known what all calls came to
abbrev pub failed_of : Option WriteCalls → Option Bool
failed_of = option_map (λ (calls : WriteCalls). calls.has_failed)

-- none of the calls between failed: that is known as it was before them
abbrev pub NoneFailed : Option WriteCalls → Option WriteCalls → Type 0
NoneFailed old new = failed_of new ≡ failed_of old

-- what is known of all calls of a writer before some were made, and after them
pub record WritesMade : Type 0 where
  pub before : Option WriteCalls
  pub after : Option WriteCalls

-- the calls between the two
abbrev pub writes_between : Option WriteCalls → Option WriteCalls → WritesMade
writes_between before after = record { before = before; after = after }

-- nothing was taken since the last flush that succeeded
abbrev pub IsFlushed : Option WriteCalls → Type 0
IsFlushed None = ⊤
IsFlushed (Some calls) = IsTrue calls.is_flushed

-- no call failed, and nothing was taken since the last flush
abbrev pub AllFlushed : WritesMade → Type 0
AllFlushed calls = IsFlushed calls.after × NoneFailed calls.before calls.after

-- at least so many calls of `write` were made
abbrev pub AtLeast : ℕ → Option WriteCalls → Type 0
AtLeast count None = ⊤
AtLeast count (Some calls) = count ≤ calls.made
