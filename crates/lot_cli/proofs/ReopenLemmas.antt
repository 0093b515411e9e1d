-- What an open finds of a book that a stop left.
use Rattle.std.proofs.Common.{◌≡◌, sym, ap, subst, List}
use Rattle.std.proofs.Math.Logic.{∥∥₁_map}
use Rattle.sqlite.proofs.Theorems.{opens_again}
use Rattle.sqlite.specs.Effect.{Database}
use Rattle.sqlite.specs.Files.{Finds, HoldsDatabase, IsOpened, file_state, image_of}
use Rattle.sqlite.specs.Held.{Held}
use Rattle.sqlite.specs.State.{IsLive, Opens, State}
use Rattle.sqlite.specs.Tree.{Trees}
use Rattle.sqlite_catalog.proofs.ReadLemmas.{lists_once}
use Rattle.sqlite_disk.specs.declared.Disk.{Ghosts}
use Rattle.sqlite_disk.specs.declared.Files.{Files}
use Rattle.sqlite_store.specs.declared.store.FileStore.{FileStore}
use Rattle.lot_table.specs.Book.{Holds}
use Rattle.lot_rows.specs.Tables.{layout}
use Rattle.lot_book.specs.Facts.{Entry}
use Rattle.lot_stored.specs.StandFor.{Left, Stands}
use Rattle.lot_cli.specs.Reopen.{IsOpenedAgain, LeavesOneOf, StandsForOneOf}

-- Trees list one schema at most, so what is shown is the book's.
pub found_again : (s : State) (book : List Entry) → Opens s → IsLive s → Left s.committed.trees book → Stands s book
found_again s book opens live left =
    let same : s.now.trees ≡ s.committed.trees = ap (λ (db : Database). db.trees) opens.clean in
    let holds : Holds layout s.now.trees left.tables = subst (λ (trees : Trees). Holds layout trees left.tables) (sym same) left.holds in
    record {
      book = left.book;
      tables = left.tables;
      has = (lists_once _ s.now.schema layout.schema (live opens.is_open).0.lists holds.sound.lists, holds);
      stand = left.stand;
    }

module _ {D : Type 0} {g : Ghosts D} where
  pub found_in_files : (files : Files D) (c : Held (FileStore D g)) (trees : Trees) (book : List Entry) → HoldsDatabase (image_of g files) trees → Left trees book
      → Finds files c → IsOpened c → Stands (file_state c) book
  found_in_files files c trees book holds left finds opened =
      found_again (file_state c) book opened.0 opened.1 (subst (λ (db : Trees). Left db book) (sym (finds.holds trees holds)) left)

  pub found_after_stop : (stopped : Held (FileStore D g)) (files : Files D) (c : Held (FileStore D g)) (Books : List Entry → Type 0)
      → LeavesOneOf Books (file_state stopped).may_leave → IsOpenedAgain stopped files c → StandsForOneOf Books (file_state c)
  found_after_stop stopped files c Books leaves again = ∥∥₁_map
      (opens_again stopped.store again.numbered (λ trees may. (layout.schema, (leaves trees may).2.holds.sound)) (image_of g files) again.left)
      (λ db.
      let one = leaves db.0 db.1 in
      let found : (book : List Entry) × Books book × Stands (file_state c) book = (one.0, one.1, found_in_files files c db.0 one.0 db.2 one.2 again.finds again.opened) in
      found)
