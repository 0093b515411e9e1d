-- What a file in memory holds.
use Rattle.std.specs.Prelude.{◌≡◌, List, [], ℕ, Result, Ok, Err}
use Rattle.std.specs.IoError.{error_kind}
use Rattle.std.specs.declared.io.Error.{Error as SystemError}
use Rattle.std.specs.declared.io.ErrorKind.{ErrorKind}
use Rattle.std.specs.declared.io.ErrorKind.TheVariants as kind
use Rattle.std.specs.declared.vec.Vec.{Vec}
use Rattle.sqlite_disk.specs.declared.files.Files.{Files}
use Rattle.lot_files.specs.Cause.{system_cause}
use Rattle.lot_files.specs.Entry.{bytes_in}
use Rattle.lot_files.specs.declared.cause.Cause.{Cause}
use Rattle.lot_files.specs.declared.image.Image.{Image}

-- the bytes of a file in memory
abbrev pub held : Image → List ℕ
held image = image.bytes.items

-- two files in memory hold nothing
abbrev pub HoldNothing : Files Image → Type 0
HoldNothing files = (held files.log ≡ []) × (held files.db ≡ [])

-- the bytes of a copy that was made, or why there is none
abbrev pub held_by : Result Image Cause → Result (List ℕ) Cause
held_by (Ok image) = Ok (held image)
held_by (Err cause) = Err cause

-- a file that isn't there is copied as an empty one
abbrev pub copy_without : ErrorKind → SystemError → Result (List ℕ) Cause
copy_without kind.NotFound error = Ok []
copy_without _ error = Err (system_cause error)

-- the bytes of a copy of a file of which that was read
abbrev pub copy_from : Result (List ℕ) SystemError → Result (List ℕ) Cause
copy_from (Ok bytes) = Ok bytes
copy_from (Err error) = copy_without (error_kind error) error

-- the same of a file that was read so
abbrev pub copy_of : {A : Type 0} → Result (Vec ℕ A) SystemError → Result (List ℕ) Cause
copy_of read = copy_from (bytes_in read)
