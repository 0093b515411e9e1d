-- A copy of the files of a book: what its source gave, one call after another. For private contracts alone.
use Rattle.std.specs.Prelude.{◌≡◌, ◌≢◌, ◌⊎◌, ℕ, zero, suc, Ok, Err}
use Rattle.std.specs.String.{string_bytes}
use Rattle.sqlite_disk.specs.declared.files.Files.{Files}
use Rattle.lot_files.specs.BookFiles.{GivesFile, GivesStamp}
use Rattle.lot_files.specs.Image.{held}
use Rattle.lot_files.specs.declared.cause.Cause.{Cause}
use Rattle.lot_files.specs.declared.cause.Cause.TheVariants.{InUse}
use Rattle.lot_files.specs.declared.file_system.FileSystem.{Ghosts as SystemGhosts}
use Rattle.lot_files.specs.declared.image.Image.{Image}
use Rattle.lot_files.specs.declared.source.BookFiles.{BookFiles}
use Rattle.lot_files.specs.declared.source.Source.{Ghosts}
use Rattle.lot_files.specs.declared.source.Stamp.{Stamp}

module _ {S : Type 0} (g : Ghosts S) where
  -- a round gives a stamp, then the book's file, then its log, and then a stamp again
  abbrev pub IsRound : S → Stamp → Files Image → Stamp → S → Type 0
  IsRound old before files after new =
      (stamped read logged : S)
      × g.stamps old (Ok before) stamped
      × g.reads_book stamped (Ok (held files.db)) read
      × g.reads_log read (Ok (held files.log)) logged
      × g.stamps logged (Ok after) new

  -- so many rounds were for nothing: the stamps of each differ
  unfoldable pub AreTorn : ℕ → S → S → Type 0
  AreTorn zero old new = old ≡ new
  AreTorn (suc count) old new =
      (mid : S) × (before after : Stamp) × (files : Files Image)
      × AreTorn count old mid × (before ≢ after) × IsRound mid before files after new

  -- the copy is of the last round, whose stamps are the same
  abbrev pub IsCopied : S → Files Image → S → Type 0
  IsCopied old files new =
      (count : ℕ) × (mid : S) × (stamp : Stamp) × AreTorn count old mid × IsRound mid stamp files stamp new

  -- the last call failed for that cause
  abbrev IsFailed : Cause → S → Type 0
  IsFailed cause new =
      (mid : S) × (g.stamps mid (Err cause) new ⊎ g.reads_book mid (Err cause) new ⊎ g.reads_log mid (Err cause) new)

  -- there is no copy: each try was for nothing, or a call failed
  abbrev pub IsUncopied : ℕ → S → Cause → S → Type 0
  IsUncopied tries old cause new = ((cause ≡ InUse) × AreTorn tries old new) ⊎ IsFailed cause new

-- the files of a book in a file system are read to be copied, which leaves them as they are
abbrev pub reads_files : {S : Type 0} → SystemGhosts S → Ghosts (BookFiles S)
reads_files g = record {
  stamps = λ s answer left. (left ≡ s)
      × GivesStamp g s.fs.now (string_bytes s.located.now.book) (string_bytes s.located.now.log) answer;
  reads_book = λ s answer left. (left ≡ s) × GivesFile g s.fs.now (string_bytes s.located.now.book) answer;
  reads_log = λ s answer left. (left ≡ s) × GivesFile g s.fs.now (string_bytes s.located.now.log) answer;
}
