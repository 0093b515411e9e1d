-- What it comes to that the database of a book is opened: in the files of a path, or in a copy of them in memory.
use Rattle.std.specs.Prelude.{◌≡◌, ◌⊎◌, ℕ, List, IfErr, IfOk, Option, None, Some, Result, Ok, Err}
use Rattle.std.specs.declared.fs.options.OpenOptions.{OpenOptions}
use Rattle.std.specs.declared.io.Error.{Error as SystemError}
use Rattle.sqlite.specs.Files.{FailsToOpenFiles, Finds, IsCleanLeft, file_state}
use Rattle.sqlite.specs.Held.{Held}
use Rattle.sqlite.specs.State.{HasCleanDisk}
use Rattle.sqlite.specs.declared.error.Error.{Error}
use Rattle.sqlite.specs.declared.error.Error.TheVariants.{SqliteFailure}
use Rattle.sqlite.specs.declared.error.ErrorCode.TheVariants as code
use Rattle.sqlite.specs.declared.file.Leftover.{Leftover}
use Rattle.sqlite_disk.specs.declared.Disk.{Ghosts as DiskGhosts}
use Rattle.sqlite_disk.specs.declared.Files.{Files}
use Rattle.sqlite_std_file.specs.declared.pair.OpenError.{OpenError}
use Rattle.sqlite_store.specs.declared.store.FileStore.{FileStore}
use Rattle.lot_files.specs.Cause.{copy_cause, opening_error}
use Rattle.lot_files.specs.Copy.{IsCopied, IsUncopied, reads_files}
use Rattle.lot_files.specs.Image.{HoldNothing}
use Rattle.lot_files.specs.Medium.{in_memory}
use Rattle.lot_files.specs.Noted.{AreNoted}
use Rattle.lot_files.specs.Opened.{IsMarkedBy, IsOverMemory, IsOverSystem, IsReady}
use Rattle.lot_files.specs.Refusal.{IsWhy, IsWhyKept}
use Rattle.lot_files.specs.Shown.{IsOriginal, IsRefused, ShowsEmpty}
use Rattle.lot_files.specs.declared.cause.Cause.{Cause}
use Rattle.lot_files.specs.declared.file_opener.FileOpener.{Ghosts as FileOpenerGhosts}
use Rattle.lot_files.specs.declared.file_system.FileSystem.{Ghosts}
use Rattle.lot_files.specs.declared.image.Image.{Image}
use Rattle.lot_files.specs.declared.located.Located.{Located}
use Rattle.lot_files.specs.declared.medium.Medium.{Medium}
use Rattle.lot_files.specs.declared.noted.Noted.{Noted}
use Rattle.lot_files.specs.declared.opener.Opener.{Ghosts as OpenerGhosts}
use Rattle.lot_files.specs.declared.source.BookFiles.{BookFiles}
use Rattle.lot_files.specs.declared.source.Source.{Ghosts as SourceGhosts}

module _ {A B D : Type 0} {d : DiskGhosts (Medium A B)} (conn : D → Held (FileStore (Medium A B) d)) where
  -- The library opens the database in files, and its connection shows what they held. Or it doesn't open them, for what they held or
  -- where a call of them failed, and that error is told so.
  pub record OpensFiles (Tells : Error → Cause → Type 0) (files : Files (Medium A B)) (result : Result D Cause) : Type 0 where
    pub found : IfOk result (λ database. HasCleanDisk (file_state (conn database)) → Finds files (conn database))
    pub fails : IfErr result (λ cause. (error : Error) × (left : Leftover (Medium A B) d)
        × (IsCleanLeft left → FailsToOpenFiles files left error) × Tells error cause)

module _ {A D : Type 0} {d : DiskGhosts (Medium A Image)} (conn : D → Held (FileStore (Medium A Image) d)) where
  -- it opens the database in files in memory
  abbrev pub OpensImages : Files Image → Result D Cause → Type 0
  OpensImages files result = OpensFiles conn (λ error cause. cause ≡ copy_cause error) (in_memory files) result

  -- an empty database is opened: in two files in memory that hold nothing
  pub record OpensNothing (result : Result D Cause) : Type 0 where
    pub files : Files Image
    pub hold_nothing : HoldNothing files
    pub opens : OpensImages files result

  module _ {S : Type 0} (g : SourceGhosts S) where
    -- the database in a copy of what a source gives is opened, or there is no copy
    pub record OpensCopied (old : S) (result : Result D Cause) (new : S) : Type 0 where
      pub told :
          ((cause : Cause) × IsUncopied g 100 old cause new × (result ≡ Err cause))
          ⊎ ((files : Files Image) × IsCopied g old files new × OpensImages files result)

  module _ {S : Type 0} (g : Ghosts S) (fs : S) where
    -- a copy of the database in the files of a book is opened
    pub record OpensCopyOf (located : Located) (result : Result D Cause) : Type 0 where
      pub source : BookFiles S
      pub left : BookFiles S
      pub in_system : source.fs.now ≡ fs
      pub at_files : source.located.now ≡ located
      pub opens : OpensCopied (reads_files g) source result left

    -- A copy is opened of the database in the files of the book to which a path leads, and an empty one where nothing is there.
    pub record OpensCopyAt (path : List ℕ) (result : Result D Cause) : Type 0 where
      pub original : Result (Option Located) Cause
      pub is_original : IsOriginal g fs path original
      pub told :
          IsRefused original result
          ⊎ ((located : Located) × OpensCopyOf located result × (original ≡ Ok (Some located)))
          ⊎ (OpensNothing result × (original ≡ Ok None))

  module _ {S : Type 0} (g : Ghosts S) where
    -- the database is a copy of the one in the files of a path: nothing of it stays
    pub record IsCopyAt (path : List ℕ) (database : D) : Type 0 where
      pub fs : S
      pub opens : OpensCopyAt g fs path (Ok database)
      pub over : IsOverMemory (conn database)

module _ {A D S : Type 0} {d : DiskGhosts (Medium (Noted A) Image)} (conn : D → Held (FileStore (Medium (Noted A) Image) d))
    (g : Ghosts S) (makes : S → OpenOptions → List ℕ → Result Unit SystemError → Type 0) (fs : S) where
  -- it isn't opened for that error, and why is told
  abbrev IsNotOpened : List ℕ → Error → Result D Cause → Type 0
  IsNotOpened path error result = (cause : Cause) × IsWhy g makes fs path error cause × (result ≡ Err cause)

  -- it is opened in files of the system, which keep why a call of them failed, and the marks in its log begin with that number
  pub record OpensNoted (path : List ℕ) (files : Files A) (number : ℕ) (result : Result D Cause) : Type 0 where
    pub noted : Files (Medium (Noted A) Image)
    pub are : AreNoted files noted
    pub opens : OpensFiles conn (IsWhyKept g makes fs path) noted result
    pub marked : IfOk result (λ database. IsMarkedBy number (conn database))

module _ {A D S : Type 0} {d : DiskGhosts (Medium (Noted A) Image)} (conn : D → Held (FileStore (Medium (Noted A) Image) d))
    (g : Ghosts S) (makes : S → OpenOptions → List ℕ → Result Unit SystemError → Type 0) (o : FileOpenerGhosts S A) (system : S) where
  -- the same with a number that is drawn, where one can be
  pub record OpensGiven (path : List ℕ) (files : Files A) (result : Result D Cause) : Type 0 where
    pub seed : Option ℕ
    pub draws : o.draws system seed
    pub told :
        (IsNotOpened conn g makes system path (SqliteFailure code.CannotOpen) result × (seed ≡ None))
        ⊎ ((number : ℕ) × OpensNoted conn g makes system path files number result × (seed ≡ Some number))

  -- the database in the files of a path is opened
  pub record OpensAt (path : List ℕ) (result : Result D Cause) : Type 0 where
    pub files : Result (Files A) OpenError
    pub gives : o.gives system path files
    pub told :
        ((error : OpenError) × IsNotOpened conn g makes system path (opening_error error) result × (files ≡ Err error))
        ⊎ ((found : Files A) × OpensGiven path found result × (files ≡ Ok found))

module _ {A D S : Type 0} {d : DiskGhosts (Medium (Noted A) Image)} (conn : D → Held (FileStore (Medium (Noted A) Image) d))
    (g : Ghosts S) (makes : S → OpenOptions → List ℕ → Result Unit SystemError → Type 0) (o : FileOpenerGhosts S A) where
  -- the database is the one in the files of a path: what is written goes there
  pub record IsInFile (path : List ℕ) (database : D) : Type 0 where
    pub system : S
    pub opens : OpensAt conn g makes o system path (Ok database)
    pub over : IsOverSystem (conn database)

  -- the system as what opens the databases of books
  abbrev pub opener_over : OpenerGhosts S D
  opener_over = record {
    opens = λ system path result. OpensAt conn g makes o system path result;
    copies = λ system path result. OpensCopyAt conn g system path result;
    shows_empty = λ system path empty. ShowsEmpty g system path empty;
    is_in = IsInFile;
    is_copy = IsCopyAt conn g;
    is_ready = λ database. IsReady (conn database);
  }
