-- Databases that are opened in files of one kind.
use Rattle.std.specs.Prelude.{IfOk, List, ℕ, Option, Result, Ok, Err}
use Rattle.std.specs.declared.fs.options.OpenOptions.{OpenOptions}
use Rattle.std.specs.declared.io.Error.{Error as SystemError}
use Rattle.sqlite.specs.Files.{Finds, file_state}
use Rattle.sqlite.specs.Held.{Held}
use Rattle.sqlite.specs.State.{HasCleanDisk}
use Rattle.sqlite.specs.declared.error.Error.{Error}
use Rattle.sqlite_disk.specs.declared.Disk.{Ghosts as DiskGhosts}
use Rattle.sqlite_disk.specs.declared.Files.{Files}
use Rattle.sqlite_store.specs.declared.store.FileStore.{FileStore}
use Rattle.lot_files.specs.Medium.{IsOfSystem, in_memory}
use Rattle.lot_files.specs.Noted.{AreNoted, IsInCell, IsKept, IsNoted, TellsKept}
use Rattle.lot_files.specs.Opened.{IsOverMemory, IsOverSystem}
use Rattle.lot_files.specs.Opening.{IsCopyAt, IsInFile, OpensAt, OpensCopyAt, OpensImages}
use Rattle.lot_files.specs.Refusal.{IsWhyKept, IsWhyOver}
use Rattle.lot_files.specs.declared.cause.Cause.{Cause}
use Rattle.lot_files.specs.declared.file_opener.FileOpener.{Ghosts as FileOpenerGhosts}
use Rattle.lot_files.specs.declared.file_system.FileSystem.{Ghosts}
use Rattle.lot_files.specs.declared.image.Image.{Image}
use Rattle.lot_files.specs.declared.keeper.Keeper.{Ghosts as KeeperGhosts}
use Rattle.lot_files.specs.declared.medium.Medium.{Medium}
use Rattle.lot_files.specs.declared.medium.Medium.TheVariants.{Memory, System}
use Rattle.lot_files.specs.declared.noted.Failure.{Failure}
use Rattle.lot_files.specs.declared.noted.Noted.{Noted}

of_system : {A B : Type 0} (file : A) (medium : Medium (Noted A) B) → IsNoted file medium → IsOfSystem medium
of_system file (System noted) is = tt
of_system file (Memory image) is = is

-- one that found what two files of the system held, which keep why a call of them failed
pub over_noted : {A B : Type 0} {d : DiskGhosts (Medium (Noted A) B)} (files : Files A) (noted : Files (Medium (Noted A) B))
    (conn : Held (FileStore (Medium (Noted A) B) d)) → AreNoted files noted
    → (HasCleanDisk (file_state conn) → Finds noted conn) → IsOverSystem conn
over_noted files noted conn are found =
    λ clean. (noted, (of_system files.log noted.log are.0, of_system files.db noted.db are.1), found clean)

kept_of : {K : Type 0} (k : KeeperGhosts K) (keeper : K) (failure : Failure)
    (is : (kept : Option SystemError) → k.holds keeper kept → IsInCell failure kept) (kept : Option Cause) → TellsKept k keeper kept → IsKept kept
kept_of k keeper failure is kept tells = (failure, (tells.0, is tells.0 tells.1, tells.2))

-- what is told over files that keep why a call of them failed
pub kept_why : {S K : Type 0} (g : Ghosts S) (makes : S → OpenOptions → List ℕ → Result Unit SystemError → Type 0) (k : KeeperGhosts K) (fs : S) (keeper : K)
    (failure : Failure) (is : (kept : Option SystemError) → k.holds keeper kept → IsInCell failure kept) (path : List ℕ) (error : Error) (cause : Cause)
    → IsWhyOver g makes k fs keeper path error cause → IsWhyKept g makes fs path error cause
kept_why g makes k fs keeper failure is path error cause why = record {
  said = why.said;
  kept = why.kept;
  is_why = why.is_why;
  is_kept = kept_of k keeper failure is why.kept why.tells;
  told = why.told;
}

-- one, where there is one, is over the two files in memory in which it is opened
pub over_images : {A D : Type 0} {d : DiskGhosts (Medium A Image)} (conn : D → Held (FileStore (Medium A Image) d)) (files : Files Image)
    (result : Result D Cause) → OpensImages conn files result → IfOk result (λ database. IsOverMemory (conn database))
over_images conn files (Ok database) opens = λ clean. (in_memory files, (tt, tt), opens.found clean)
over_images conn files (Err cause) opens = opens.found

-- one that is opened in the files of a path is in them
pub in_file : {A D S : Type 0} {d : DiskGhosts (Medium (Noted A) Image)} (conn : D → Held (FileStore (Medium (Noted A) Image) d))
    (g : Ghosts S) (makes : S → OpenOptions → List ℕ → Result Unit SystemError → Type 0) (o : FileOpenerGhosts S A) (system : S) (path : List ℕ) (result : Result D Cause)
    → OpensAt conn g makes o system path result → IfOk result (λ database. IsOverSystem (conn database))
    → IfOk result (IsInFile conn g makes o path)
in_file conn g makes o system path (Ok database) opens over = record { system = system; opens = opens; over = over }
in_file conn g makes o system path (Err cause) opens over = over

-- one that is opened in a copy of them is a copy
pub copy_at : {A D S : Type 0} {d : DiskGhosts (Medium A Image)} (conn : D → Held (FileStore (Medium A Image) d))
    (g : Ghosts S) (fs : S) (path : List ℕ) (result : Result D Cause)
    → OpensCopyAt conn g fs path result → IfOk result (λ database. IsOverMemory (conn database))
    → IfOk result (IsCopyAt conn g path)
copy_at conn g fs path (Ok database) opens over = record { fs = fs; opens = opens; over = over }
copy_at conn g fs path (Err cause) opens over = over
