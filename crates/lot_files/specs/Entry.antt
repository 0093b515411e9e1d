-- What a file system shows of a path, and what that says of the file of a book.
use Rattle.std.specs.Prelude.{◌&&◌, ◌==◌, Bool, false, true, List, ℕ, Option, None, Some, Result, Ok, Err, String, if◌then◌else◌}
use Rattle.std.specs.IoError.{error_kind}
use Rattle.std.specs.String.{string_bytes}
use Rattle.std.specs.declared.io.Error.{Error}
use Rattle.std.specs.declared.io.ErrorKind.{ErrorKind}
use Rattle.std.specs.declared.io.ErrorKind.TheVariants as kind
use Rattle.std.specs.declared.vec.Vec.{Vec}
use Rattle.lot_files.specs.Cause.{system_cause}
use Rattle.lot_files.specs.declared.cause.Cause.{Cause}
use Rattle.lot_files.specs.declared.cause.Cause.TheVariants as cause
use Rattle.lot_files.specs.declared.file_system.Entry.{Entry}
use Rattle.lot_files.specs.declared.file_system.Kind.{Kind}
use Rattle.lot_files.specs.declared.file_system.Kind.TheVariants.{File, Folder, Other}

-- the bytes of a path that the system gave, or its error
abbrev pub text_in : {A : Type 0} → Result (String A) Error → Result (List ℕ) Error
text_in (Ok text) = Ok (string_bytes text)
text_in (Err error) = Err error

-- the bytes of a file that the system gave, or its error
abbrev pub bytes_in : {A : Type 0} → Result (Vec ℕ A) Error → Result (List ℕ) Error
bytes_in (Ok bytes) = Ok bytes.items
bytes_in (Err error) = Err error

-- an error of that kind says that there is nothing
abbrev pub is_absence : ErrorKind → Bool
is_absence kind.NotFound = true
is_absence _ = false

abbrev pub says_absent : Error → Bool
says_absent error = is_absence (error_kind error)

-- whether there is nothing
abbrev pub is_absent : Result Entry Error → Bool
is_absent (Ok entry) = false
is_absent (Err error) = says_absent error

abbrev pub of_file : Kind → Bool
of_file File = true
of_file Folder = false
of_file Other = false

abbrev pub of_folder : Kind → Bool
of_folder File = false
of_folder Folder = true
of_folder Other = false

-- whether there is a file
abbrev pub is_file : Result Entry Error → Bool
is_file (Ok entry) = of_file entry.kind
is_file (Err error) = false

-- a file of so many bytes
abbrev pub is_file_of : Result Entry Error → ℕ → Bool
is_file_of (Ok entry) count = of_file entry.kind && (entry.len == count)
is_file_of (Err error) count = false

-- a folder
abbrev pub is_folder : Result Entry Error → Bool
is_folder (Ok entry) = of_folder entry.kind
is_folder (Err error) = false

-- The file of a book is a file with no second name.
abbrev pub fit_kind : Kind → ℕ → Result Unit Cause
fit_kind Folder names = Err cause.Folder
fit_kind Other names = Err cause.Irregular
fit_kind File names = if names == 1 then Ok tt else Err cause.SecondName

-- whether what a real path leads to can be the file of a book, whatever it holds
abbrev pub fit : Result Entry Error → Result Unit Cause
fit (Ok entry) = fit_kind entry.kind entry.names
fit (Err error) = Err (system_cause error)

-- a file of one byte can be that of a book where the byte is zero
abbrev pub zero_byte : Result (Option ℕ) Error → Result Unit Cause
zero_byte (Ok (Some byte)) = if byte == 0 then Ok tt else Err cause.OneByte
zero_byte (Ok None) = Err cause.OneByte
zero_byte (Err error) = Err cause.OneByte

-- a journal has nothing to play back where it has no byte, or its first is zero
abbrev pub cold : Result (Option ℕ) Error → Result Unit Cause
cold (Ok (Some byte)) = if byte == 0 then Ok tt else Err cause.Journal
cold (Ok None) = Ok tt
cold (Err error) = Err (system_cause error)

-- what isn't a file, in the place of a journal, may be one
abbrev pub no_file : Result Entry Error → Result Unit Cause
no_file (Ok entry) = Err cause.Journal
no_file (Err error) = if says_absent error then Ok tt else Err (system_cause error)
