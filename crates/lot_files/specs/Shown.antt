-- What a file system shows of the path of a book: whether it leads to a file, and to which. Each says which answers come to which
-- result.
use Rattle.std.specs.Prelude.{◌≡◌, ◌==◌, ◌++◌, ◌⊎◌, Bool, IsOkAnd, codes, false, if◌then◌else◌, is_err, length, List, ℕ, None, not, Option, Some, Result, Ok, Err, true}
use Rattle.std.specs.String.{string_bytes}
use Rattle.std.specs.declared.io.Error.{Error}
use Rattle.lot_files.specs.Cause.{system_cause}
use Rattle.lot_files.specs.Entry.{cold, fit, is_absent, is_file, is_file_of, is_folder, no_file, says_absent, zero_byte}
use Rattle.lot_files.specs.Path.{folder_of, has_long_name, names_file}
use Rattle.lot_files.specs.declared.cause.Cause.{Cause}
use Rattle.lot_files.specs.declared.cause.Cause.TheVariants.{LongName, Memory, NoFile, NoFolder}
use Rattle.lot_files.specs.declared.file_system.Entry.{Entry}
use Rattle.lot_files.specs.declared.file_system.FileSystem.{Ghosts}
use Rattle.lot_files.specs.declared.located.Located.{Located}

-- a test refuses the file of a book
abbrev pub IsRefused : {A B : Type 0} → Result A Cause → Result B Cause → Type 0
IsRefused test result = (cause : Cause) × (result ≡ Err cause) × (test ≡ Err cause)

-- the files of a book are its own, and its log beside it
pub record AreBeside (book : List ℕ) (located : Located) : Type 0 where
  pub book_at : string_bytes located.book ≡ book
  pub log_at : string_bytes located.log ≡ book ++ codes "-wal"

-- they are named, unless memory ends
pub record AreNamed (book : List ℕ) (result : Result Located Cause) : Type 0 where
  pub told : (result ≡ Err Memory) ⊎ IsOkAnd result (AreBeside book)

-- the files of a book that is there
abbrev pub of_located : Result Located Cause → Result (Option Located) Cause
of_located (Ok located) = Ok (Some located)
of_located (Err cause) = Err cause

-- no files, where a file can be made
abbrev pub of_nothing : Result Unit Cause → Result (Option Located) Cause
of_nothing (Ok done) = Ok None
of_nothing (Err cause) = Err cause

module _ {S : Type 0} (g : Ghosts S) (fs : S) where
  -- whether a path leads to a folder
  abbrev pub LeadsToFolder : List ℕ → Bool → Type 0
  LeadsToFolder path answer = (found : Result Entry Error) × g.leads_to fs path found × (answer ≡ is_folder found)

  -- Whether the folder is there that a path names. Where it names none, a name is one in the folder in which the program runs.
  pub record ShowsFolder (path : List ℕ) (answer : Bool) : Type 0 where
    pub told :
        ((folder : List ℕ) × LeadsToFolder folder answer × (folder_of path ≡ Some folder))
        ⊎ ((folder_of path ≡ None) × (answer ≡ not (length path == 0)))

  -- whether the path leads to nothing, in a folder that is there
  pub record ShowsMissing (path : List ℕ) (answer : Bool) : Type 0 where
    pub found : Result Entry Error
    pub leads : g.leads_to fs path found
    pub told : ((is_absent found ≡ true) × ShowsFolder path answer) ⊎ ((is_absent found ≡ false) × (answer ≡ false))

  -- whether it leads to an empty file
  pub record ShowsEmpty (path : List ℕ) (answer : Bool) : Type 0 where
    pub found : Result Entry Error
    pub leads : g.leads_to fs path found
    pub told : answer ≡ is_file_of found 0

  -- what a test says of the first byte of the file to which it leads
  abbrev pub TestsFirst : (Result (Option ℕ) Error → Result Unit Cause) → List ℕ → Result Unit Cause → Type 0
  TestsFirst test path result = (first : Result (Option ℕ) Error) × g.begins fs path first × (result ≡ test first)

  -- where the path leads to a file of one byte, that is zero
  pub record AllowsFile (path : List ℕ) (result : Result Unit Cause) : Type 0 where
    pub found : Result Entry Error
    pub leads : g.leads_to fs path found
    pub told :
        ((is_file_of found 1 ≡ true) × TestsFirst zero_byte path result)
        ⊎ ((is_file_of found 1 ≡ false) × (result ≡ Ok tt))

  -- it can be the path of a book: its name isn't too long, and what it leads to can be the file of one
  pub record AllowsBook (path : List ℕ) (result : Result Unit Cause) : Type 0 where
    pub told :
        ((has_long_name path ≡ true) × (result ≡ Err LongName))
        ⊎ ((has_long_name path ≡ false) × AllowsFile path result)

  -- nothing has the path other than a journal with nothing to play back
  pub record ShowsNoJournal (path : List ℕ) (result : Result Unit Cause) : Type 0 where
    pub found : Result Entry Error
    pub has : g.has fs path found
    pub told :
        ((is_file found ≡ true) × TestsFirst cold path result)
        ⊎ ((is_file found ≡ false) × (result ≡ no_file found))

  -- the same of the journal beside a book, whose path takes memory
  pub record IsAlone (book : List ℕ) (result : Result Unit Cause) : Type 0 where
    pub told : (result ≡ Err Memory) ⊎ ShowsNoJournal (book ++ codes "-journal") result

  -- why the system gives no real path
  pub record IsUnresolved (path : List ℕ) (error : Error) (cause : Cause) : Type 0 where
    pub told :
        ((says_absent error ≡ false) × (cause ≡ system_cause error))
        ⊎ ((says_absent error ≡ true) × (has : Bool) × ShowsFolder path has × (cause ≡ (if has then NoFile else NoFolder)))

  -- the files of a book where no journal is beside it
  pub record AreOfAlone (book : List ℕ) (result : Result Located Cause) : Type 0 where
    pub alone : Result Unit Cause
    pub is_alone : IsAlone book alone
    pub told : IsRefused alone result ⊎ ((alone ≡ Ok tt) × AreNamed book result)

  -- the files of the book at a real path, where what is there can be its file
  pub record IsBookAt (book : List ℕ) (result : Result Located Cause) : Type 0 where
    pub found : Result Entry Error
    pub leads : g.leads_to fs book found
    pub told : IsRefused (fit found) result ⊎ ((fit found ≡ Ok tt) × AreOfAlone book result)

  -- there is no real path, for that cause
  abbrev pub HasNoReal : List ℕ → Result (List ℕ) Error → Result Located Cause → Type 0
  HasNoReal path real result =
      (error : Error) × (cause : Cause) × (result ≡ Err cause) × IsUnresolved path error cause × (real ≡ Err error)

  -- the files of the book to which a path leads: those at its real path
  pub record LeadsToBook (path : List ℕ) (result : Result Located Cause) : Type 0 where
    pub real : Result (List ℕ) Error
    pub is_really : g.is_really fs path real
    pub told : HasNoReal path real result ⊎ ((book : List ℕ) × IsBookAt book result × (real ≡ Ok book))

  -- whether nothing has the path, a link also
  abbrev pub HasNothing : List ℕ → Bool → Type 0
  HasNothing path answer = (found : Result Entry Error) × g.has fs path found × (answer ≡ is_err found)

  -- whether there is nothing at the path, not even a link, in a folder that is there
  pub record ShowsNothing (path : List ℕ) (answer : Bool) : Type 0 where
    pub missing : Bool
    pub shows : ShowsMissing path missing
    pub told : ((missing ≡ false) × (answer ≡ false)) ⊎ ((missing ≡ true) × HasNothing path answer)

  -- the files of the book to which it leads, where there is one
  abbrev pub AreOfBook : List ℕ → Result (Option Located) Cause → Type 0
  AreOfBook path result = (located : Result Located Cause) × LeadsToBook path located × (result ≡ of_located located)

  -- the files that are copied: those of the book to which the path leads, and none where nothing is there
  pub record IsOriginal (path : List ℕ) (result : Result (Option Located) Cause) : Type 0 where
    pub nothing : Bool
    pub shows : ShowsNothing path nothing
    pub told : ((nothing ≡ true) × (result ≡ of_nothing (names_file path))) ⊎ ((nothing ≡ false) × AreOfBook path result)
