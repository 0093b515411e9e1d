-- Why the files of a book aren't opened: what the library of the database says, or why the system refuses them. For private
-- contracts alone.
use Rattle.std.specs.Prelude.{◌≡◌, ◌⊎◌, Bool, false, is_err, List, ℕ, Option, Result, Ok, Err, true}
use Rattle.std.specs.Fs.{new_options, with_create_new, with_read, with_write}
use Rattle.std.specs.String.{string_bytes}
use Rattle.std.specs.declared.fs.options.OpenOptions.{OpenOptions}
use Rattle.std.specs.declared.io.Error.{Error as SystemError}
use Rattle.sqlite.specs.declared.error.Error.{Error}
use Rattle.sqlite.specs.declared.error.ErrorCode.TheVariants as code
use Rattle.lot_files.specs.Cause.{cause_or, library_cause, system_cause}
use Rattle.lot_files.specs.Noted.{IsKept, TellsKept}
use Rattle.lot_files.specs.Shown.{IsRefused, LeadsToBook, ShowsMissing}
use Rattle.lot_files.specs.declared.cause.Cause.{Cause}
use Rattle.lot_files.specs.declared.cause.Cause.TheVariants.{Library}
use Rattle.lot_files.specs.declared.file_system.Entry.{Entry}
use Rattle.lot_files.specs.declared.file_system.FileSystem.{Ghosts}
use Rattle.lot_files.specs.declared.located.Located.{Located}
use Rattle.lot_files.specs.declared.keeper.Keeper.{Ghosts as KeeperGhosts}

-- no more is said than that a file can't be opened
abbrev pub says_no_more : Cause → Bool
says_no_more (Library code.CannotOpen) = true
says_no_more _ = false

-- how a file of a book is opened: to be read and written, with nothing of it cut off
abbrev pub to_write : OpenOptions
to_write = with_write (with_read new_options true) true

-- how one is made
abbrev pub to_make : OpenOptions
to_make = with_create_new to_write true

-- why the system refuses to open a file
abbrev pub refused_for : Result Unit SystemError → Result Unit Cause
refused_for (Ok done) = Ok done
refused_for (Err error) = Err (system_cause error)

-- why it refuses the files of a book, or no more than that the library does
abbrev pub refusal_of : Result Unit Cause → Cause
refusal_of (Ok done) = Library code.CannotOpen
refusal_of (Err cause) = cause

module _ {S : Type 0} (g : Ghosts S) (opens : S → OpenOptions → List ℕ → Result Unit SystemError → Type 0) (fs : S) where
  -- a file is opened so
  abbrev pub OpensFile : OpenOptions → List ℕ → Result Unit Cause → Type 0
  OpensFile how path result = (opened : Result Unit SystemError) × opens fs how path opened × (result ≡ refused_for opened)

  -- a file is opened, or made where nothing has the path
  pub record TriesFile (path : List ℕ) (result : Result Unit Cause) : Type 0 where
    pub found : Result Entry SystemError
    pub has : g.has fs path found
    pub told :
        ((is_err found ≡ true) × OpensFile to_make path result)
        ⊎ ((is_err found ≡ false) × OpensFile to_write path result)

  -- one that is missing is made
  pub record TriesMissing (path : List ℕ) (result : Result Unit Cause) : Type 0 where
    pub missing : Bool
    pub shows : ShowsMissing g fs path missing
    pub told : ((missing ≡ false) × (result ≡ Ok tt)) ⊎ ((missing ≡ true) × TriesFile path result)

  -- the file of a book is opened, and then its log
  pub record TriesFiles (files : Located) (result : Result Unit Cause) : Type 0 where
    pub book : Result Unit Cause
    pub tries : TriesFile (string_bytes files.book) book
    pub told : IsRefused book result ⊎ ((book ≡ Ok tt) × TriesFile (string_bytes files.log) result)

  -- the files of the book to which a path leads
  pub record TriesLocated (path : List ℕ) (result : Result Unit Cause) : Type 0 where
    pub located : Result Located Cause
    pub leads : LeadsToBook g fs path located
    pub told : IsRefused located result ⊎ ((files : Located) × TriesFiles files result × (located ≡ Ok files))

  -- the same, where one that is missing is made before
  pub record TriesBook (path : List ℕ) (result : Result Unit Cause) : Type 0 where
    pub made : Result Unit Cause
    pub makes : TriesMissing path made
    pub told : IsRefused made result ⊎ ((made ≡ Ok tt) × TriesLocated path result)

  -- why the system refuses them
  abbrev pub IsRefusal : List ℕ → Cause → Type 0
  IsRefusal path cause = (tried : Result Unit Cause) × TriesBook path tried × (cause ≡ refusal_of tried)

  -- what the library says, or why the system refuses them where that says no more
  pub record IsWhy (path : List ℕ) (error : Error) (cause : Cause) : Type 0 where
    pub told :
        ((says_no_more (library_cause error) ≡ false) × (cause ≡ library_cause error))
        ⊎ ((says_no_more (library_cause error) ≡ true) × IsRefusal path cause)

  -- the same over files that keep why a call of them failed, where one did
  pub record IsWhyKept (path : List ℕ) (error : Error) (cause : Cause) : Type 0 where
    pub said : Cause
    pub kept : Option Cause
    pub is_why : IsWhy path error said
    pub is_kept : IsKept kept
    pub told : cause ≡ cause_or said kept

module _ {S K : Type 0} (g : Ghosts S) (opens : S → OpenOptions → List ℕ → Result Unit SystemError → Type 0) (k : KeeperGhosts K) (fs : S) (keeper : K) where
  -- the same over files that keep it there
  pub record IsWhyOver (path : List ℕ) (error : Error) (cause : Cause) : Type 0 where
    pub said : Cause
    pub kept : Option Cause
    pub is_why : IsWhy g opens fs path error said
    pub tells : TellsKept k keeper kept
    pub told : cause ≡ cause_or said kept
