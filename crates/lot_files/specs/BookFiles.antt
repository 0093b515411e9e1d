-- What the files of a book in a file system give, of which copies are made.
use Rattle.std.specs.Prelude.{◌≡◌, ◌⊎◌, List, ℕ, replicate, Result, Ok, Err}
use Rattle.std.specs.IoError.{error_kind}
use Rattle.std.specs.declared.io.Error.{Error}
use Rattle.std.specs.declared.io.ErrorKind.{ErrorKind}
use Rattle.std.specs.declared.io.ErrorKind.TheVariants as kind
use Rattle.lot_files.specs.Cause.{system_cause}
use Rattle.lot_files.specs.Image.{copy_from}
use Rattle.lot_files.specs.declared.cause.Cause.{Cause}
use Rattle.lot_files.specs.declared.file_system.Entry.{Entry}
use Rattle.lot_files.specs.declared.file_system.FileSystem.{Ghosts}
use Rattle.lot_files.specs.declared.source.Stamp.{Stamp}

-- a log that isn't there, or ends in its head, has a head of zeros
abbrev pub without_head : ErrorKind → Error → Result (List ℕ) Cause
without_head kind.NotFound error = Ok (replicate 32 0)
without_head kind.UnexpectedEof error = Ok (replicate 32 0)
without_head _ error = Err (system_cause error)

-- the head of a log of which that was read
abbrev pub head_of : Result (List ℕ) Error → Result (List ℕ) Cause
head_of (Ok head) = Ok head
head_of (Err error) = without_head (error_kind error) error

-- the stamp of a book's file beside a log with that head
abbrev pub stamp_of : Entry → Result (List ℕ) Cause → Result Stamp Cause
stamp_of entry (Ok head) = Ok (record {
  number = entry.number;
  len = entry.len;
  second = entry.second;
  nanosecond = entry.nanosecond;
  head = head;
})
stamp_of entry (Err cause) = Err cause

module _ {S : Type 0} (g : Ghosts S) (fs : S) where
  -- the stamp of the files at two paths, or why there is none: first it is asked for the book's file, and then for its log
  pub record GivesStamp (book log : List ℕ) (answer : Result Stamp Cause) : Type 0 where
    pub found : Result Entry Error
    pub leads : g.leads_to fs book found
    pub told :
        ((error : Error) × (found ≡ Err error) × (answer ≡ Err (system_cause error)))
        ⊎ ((entry : Entry) × (head : Result (List ℕ) Error) × g.heads fs log head × (found ≡ Ok entry)
        × (answer ≡ stamp_of entry (head_of head)))

  -- what a copy of the file at a path holds, or why there is none
  pub record GivesFile (path : List ℕ) (answer : Result (List ℕ) Cause) : Type 0 where
    pub read : Result (List ℕ) Error
    pub holds : g.holds fs path read
    pub told : answer ≡ copy_from read
