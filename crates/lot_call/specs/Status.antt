-- The status of a call that opens no book, by what it met.
use Rattle.std.specs.Prelude.{◌≡◌, ◌⊎◌, ℕ, Bool, false, true, List, codes, Result, Ok, Err}
use Rattle.std.specs.declared.io.Error.{Error}
use Rattle.std.specs.declared.io.ErrorKind.{ErrorKind}
use Rattle.std.specs.declared.io.ErrorKind.TheVariants.{OutOfMemory}
use Rattle.lot_base.specs.declared.fault.NameFault.{NameFault}
use Rattle.lot_base.specs.declared.fault.NameFault.TheVariants as name
use Rattle.lot_profile_text.specs.declared.fault.ProfileFault.{ProfileFault}
use Rattle.lot_profile_text.specs.declared.fault.ProfileFault.TheVariants as text
use Rattle.lot_host.specs.Answers.{stopped, unusable}
use Rattle.lot_stream.specs.Status.{code_of}
use Rattle.lot_stream.specs.declared.status.Status.TheVariants.{Accepted}
use Rattle.lot_call.specs.declared.profile.LoadFault.{LoadFault}
use Rattle.lot_call.specs.declared.profile.LoadFault.TheVariants as fault
use Rattle.lot_call.specs.declared.status.PlainFault.{PlainFault}
use Rattle.lot_call.specs.declared.status.PlainFault.TheVariants as plain

-- the line of a fault without a code
abbrev pub line_of : PlainFault → List ℕ
line_of plain.Memory = codes "fault Memory\n"
line_of plain.Open = codes "fault open\n"

-- of what can't be used, or of memory that ended
abbrev pub IsRefusal : ℕ → Type 0
IsRefusal status = (status ≡ unusable) ⊎ (status ≡ stopped)

-- of words, or of a file, that can't be read, by the kind of the error
abbrev pub status_unread : ErrorKind → ℕ
status_unread OutOfMemory = stopped
status_unread _ = unusable

-- of a text that is no account
abbrev pub status_of_name : NameFault → ℕ
status_of_name name.Memory = stopped
status_of_name _ = unusable

-- of a text that says no profile
abbrev pub status_of_text : ProfileFault → ℕ
status_of_text text.Memory = stopped
status_of_text _ = unusable

-- of a text that gives no profile to import by
abbrev pub status_of_load : LoadFault → ℕ
status_of_load (fault.Text given) = status_of_text given
status_of_load (fault.Rounding given) = status_of_name given

-- of what is shown, or can't be written
abbrev pub status_shown : Result (Unit {0}) Error → ℕ
status_shown (Ok done) = code_of Accepted
status_shown (Err error) = stopped

-- of a code that is explained, of a word that is none, or of an explanation that can't be written
abbrev pub status_told : Result Bool Error → ℕ
status_told (Ok true) = code_of Accepted
status_told (Ok false) = unusable
status_told (Err error) = stopped
