-- What is found of a book after a crash of both files.
use Rattle.std.proofs.Common.{◌≡◌, IsTrue, sym, subst}
use Rattle.std.proofs.Math.Logic.{∥∥₁_map}
use Rattle.std.proofs.lemmas.Bool.{and_from, and_parts}
use Rattle.std.specs.Prelude.{List, IfOk, Result, Ok, Err}
use Rattle.sqlite.proofs.Theorems.{opens_again}
use Rattle.sqlite.specs.Files.{Finds, IsOpened, file_state, image_of}
use Rattle.sqlite.specs.Held.{AreDatabases, Held}
use Rattle.sqlite_disk.specs.declared.Disk.{Ghosts}
use Rattle.sqlite_disk.specs.declared.Files.{Files}
use Rattle.sqlite_pool.proofs.StateLemmas.{clean_is, may_leave_is}
use Rattle.sqlite_store.specs.FileStore.{faults, files, is_shielded, recovers, state, view}
use Rattle.sqlite_store.specs.declared.store.FileStore.{FileStore}
use Rattle.sqlite_trees.proofs.Doubt.{no_doubt}
use Rattle.sqlite_trees.specs.View.{IsClean, IsQuiet}
use Rattle.sqlite_wal.specs.Files.{outcomes}
use Rattle.sqlite_wal.specs.Reads.{AreClean}
use Rattle.lot_book.specs.Facts.{Entry}
use Rattle.lot_cli.proofs.ReopenLemmas.{found_in_files}
use Rattle.lot_cli.specs.Reopen.{LeavesOneOf, StandsForOneOf}
use Rattle.lot_stored.specs.StandFor.{Stands}

-- of a value that is there, what follows from two facts on it
pub if_both : {T E : Type 0} {P Q R : T → Type 0} (r : Result T E) → ((x : T) → P x → Q x → R x) → IfOk r P → IfOk r Q → IfOk r R
if_both (Ok x) follows p q = follows x p q
if_both (Err e) follows p q = p

module _ {D : Type 0} {g : Ghosts D} where
  -- A store is closed, and each of its two files crashes: an open finds one of the books that the store may leave.
  pub found_after_crash : (stopped : Held (FileStore D g)) (store : FileStore D g) (closed left : Files D) (again : Held (FileStore D g)) (Books : List Entry → Type 0)
      → (IsClean (view store) → IsTrue (view store).is_numbered) → (IsClean (view store) → AreDatabases (recovers store))
      → IsQuiet view faults recovers is_shielded stopped.store store → (closed.log, closed.db) ≡ files store
      → g.may_leave closed.log (g.seen left.log) → g.may_leave closed.db (g.seen left.db)
      → (IsTrue (g.is_clean left.log) → IsTrue (g.is_clean closed.log)) → (IsTrue (g.is_clean left.db) → IsTrue (g.is_clean closed.db))
      → Finds left again → IsOpened again
      → LeavesOneOf Books (file_state stopped).may_leave → StandsForOneOf Books (file_state again)
  found_after_crash stopped store closed left again Books numbered sound quiet same log_left db_left log_clean db_clean finds opened leaves =
      let now = and_parts (g.is_clean left.log) (g.is_clean left.db) finds.honest in
      let before : AreClean g closed.log closed.db = and_from _ _ (log_clean now.0) (db_clean now.1) in
      let clean : AreClean g (files store).0 (files store).1 = subst (λ (it : D × D). AreClean g it.0 it.1) same before in
      let may : (state store).may_leave (image_of g left) =
      may_leave_is store.pool (image_of g left) clean (subst (λ (it : D × D). outcomes g it.0 it.1 (image_of g left)) same (log_left, db_left)) in
      let is_clean : IsClean (view store) = no_doubt _ (subst IsTrue (sym (clean_is store.pool)) clean) in
      ∥∥₁_map (opens_again store (numbered is_clean) (sound is_clean) (image_of g left) may)
      (λ db.
      let one = leaves db.0 (quiet.outcomes db.0 db.1) in
      let found : (book : List Entry) × Books book × Stands (file_state again) book = (one.0, one.1, found_in_files left again db.0 one.0 db.2 one.2 finds opened) in
      found)
