-- Why the book in a file can't be opened: what an error says of it.
use Rattle.std.specs.Prelude.{◌≡◌, Option, None, Some}
use Rattle.std.specs.Option.{unwrap_or}
use Rattle.std.specs.IoError.{error_kind}
use Rattle.std.specs.declared.io.Error.{Error as SystemError}
use Rattle.std.specs.declared.io.ErrorKind.{ErrorKind}
use Rattle.std.specs.declared.io.ErrorKind.TheVariants as kind
use Rattle.sqlite.specs.declared.error.Error.{Error}
use Rattle.sqlite.specs.declared.error.Error.TheVariants.{SqliteFailure}
use Rattle.sqlite.specs.declared.error.ErrorCode.TheVariants as code
use Rattle.sqlite_std_file.specs.declared.pair.OpenError.{OpenError}
use Rattle.sqlite_std_file.specs.declared.pair.OpenError.TheVariants as opening
use Rattle.lot_files.specs.declared.cause.Cause.{Cause}
use Rattle.lot_files.specs.declared.cause.Cause.TheVariants.{Damaged, Folder, InUse, Library, Memory, NoFile, NoFolder, NoPermission, NotADatabase, ReadOnly, System}

-- the error of the library for a file that the system doesn't open
abbrev pub error_of_kind : ErrorKind → Error
error_of_kind kind.OutOfMemory = SqliteFailure code.OutOfMemory
error_of_kind _ = SqliteFailure code.CannotOpen

-- the error of the library for files that can't be those of a database that is open here alone
abbrev pub opening_error : OpenError → Error
opening_error opening.OutOfMemory = SqliteFailure code.OutOfMemory
opening_error opening.Busy = SqliteFailure code.DatabaseBusy
opening_error opening.HotJournal = SqliteFailure code.CannotOpen
opening_error (opening.Io error) = error_of_kind (error_kind error)

-- what an error of the library of the database says by itself
abbrev pub library_cause : Error → Cause
library_cause (SqliteFailure code.OutOfMemory) = Memory
library_cause (SqliteFailure code.DatabaseBusy) = InUse
library_cause (SqliteFailure code.NotADatabase) = NotADatabase
library_cause (SqliteFailure code.DatabaseCorrupt) = Damaged
library_cause (SqliteFailure failure) = Library failure
library_cause _ = Library code.CannotOpen

-- the same where the files are in memory, which fail where memory ends, and for nothing else
abbrev pub copy_cause : Error → Cause
copy_cause (SqliteFailure code.SystemIoFailure) = Memory
copy_cause error = library_cause error

-- why the system refused, where an error of the library says no more than that the disk did
abbrev pub cause_or : Cause → Option Cause → Cause
cause_or (Library code.SystemIoFailure) refusal = unwrap_or refusal (Library code.SystemIoFailure)
cause_or (Library code.DiskFull) refusal = unwrap_or refusal (Library code.DiskFull)
cause_or cause refusal = cause

-- what an error of the system says by its kind, where the kind says enough
abbrev pub cause_of_kind : ErrorKind → Option Cause
cause_of_kind kind.OutOfMemory = Some Memory
cause_of_kind kind.NotFound = Some NoFile
cause_of_kind kind.PermissionDenied = Some NoPermission
cause_of_kind kind.ReadOnlyFilesystem = Some ReadOnly
cause_of_kind kind.NotADirectory = Some NoFolder
cause_of_kind kind.IsADirectory = Some Folder
cause_of_kind _ = None

-- what an error of the system says: the error itself, where its kind doesn't say enough
abbrev pub system_cause : SystemError → Cause
system_cause error = unwrap_or (cause_of_kind (error_kind error)) (System error)

-- a copy fails by what an error of the library says of files in memory
abbrev pub IsOfCopy : Cause → Type 0
IsOfCopy cause = (error : Error) × (cause ≡ copy_cause error)
