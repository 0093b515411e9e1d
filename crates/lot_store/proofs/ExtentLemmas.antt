-- The two questions that tell how far a book goes.
use Rattle.std.proofs.Common.{◌≡◌, ◌≤◌, ◌∙◌, ℕ, List, [], ◌∷◌, ◌++◌, All, Result, Ok, Err, length, ap, sym, subst, arith, append_assoc}
use Rattle.std.specs.Option.{unwrap_or}
use Rattle.std.specs.Result.{IsErrAnd}
use Rattle.std.proofs.lemmas.List.{append-nil}
use Rattle.std.proofs.lemmas.List.Elements.{All-from_recursion}
use Rattle.sqlite.specs.State.{State}
use Rattle.lot_book.specs.Book.{ContinuesIn}
use Rattle.lot_book.specs.Edition.{After, Migration, edition_on, ties_in}
use Rattle.lot_book.specs.Facts.{Entry, facts_of}
use Rattle.lot_book.specs.Refusals.{most_entries}
use Rattle.lot_laws.proofs.LawBooks.{accepted}
use Rattle.lot_laws.proofs.RecordedBook.{room_where_accepted}
use Rattle.lot_rows.specs.Entry.{greatest_number}
use Rattle.lot_rows.specs.Migration.{IsMigrationRow}
use Rattle.lot_rows.specs.Tables.{Tables, layout}
use Rattle.lot_rows.specs.declared.migration.MigrationRow.{MigrationRow}
use Rattle.lot_rows.specs.declared.entry.EntryRow.{EntryRow}
use Rattle.lot_stored.proofs.KeptLemmas.{greatest_counts}
use Rattle.lot_stored.proofs.NumberLemmas.{one_longer}
use Rattle.lot_stored.specs.Rows.{migration_row}
use Rattle.lot_stored.specs.StandFor.{AreOfBook, StandFor}
use Rattle.lot_table.specs.Book.{always}
use Rattle.lot_table.specs.Call.{Answers}
use Rattle.lot_table.specs.declared.fault.Fault.{Fault}
use Rattle.lot_table.specs.declared.fault.Fault.TheVariants.{Damaged, Device}
use Rattle.lot_store.specs.Extent.{IsExtent, Measures, extent_of}
use Rattle.lot_store.specs.declared.extent.Extent.{Extent}
use Rattle.lot_walk.proofs.PlaceLemmas.{unchanged_stays}

-- ---- tables that stand for a book

-- a book has no more entries than fit
book_small : (migration : Migration) (before entries : List Entry) → length before ≤ most_entries → ContinuesIn migration before entries
    → length (before ++ entries) ≤ most_entries
book_small migration before [] within continues = subst (λ (l : List Entry). length l ≤ most_entries) (sym (append-nil before)) within
book_small migration before (entry ∷ entries) within continues =
    let edition = edition_on migration before in
    let room = room_where_accepted (ties_in edition before) (facts_of before entry.key) entry.command entry.legs
    (accepted edition before entry.key entry.command entry.legs continues.0).1 in
    subst (λ (l : List Entry). length l ≤ most_entries) (append_assoc before (entry ∷ []) entries)
    (book_small migration (before ++ entry ∷ []) entries
    (subst (λ (n : ℕ). n ≤ most_entries) (sym (one_longer before entry)) (omega (arith, room))) continues.1)

pub migration_good : (tables : Tables) → AreOfBook tables → All IsMigrationRow tables.migration
migration_good tables (entries, is, stand) =
    let small = book_small (After stand.place) [] entries (omega arith) stand.judged in
    subst (All IsMigrationRow) (sym stand.migration)
    (All-from_recursion IsMigrationRow (migration_row stand.place ∷ []) (record { entries = omega (arith, small, stand.placed) }, tt))

-- ---- a question without an answer

pub no_answer : {R T : Type 0} (Says : R → Tables → Type 0) (Good : R → Type 0) (IsSound : Tables → Type 0) (Asked : T → Tables → Type 0)
    (old new : State) (fault : Fault) (result : Result T Fault) → IsErrAnd result (λ e. e ≡ fault)
    → Answers layout Says Good IsSound old new (Err fault) → ((tables : Tables) → AreOfBook tables → IsSound tables)
    → Answers layout Asked always AreOfBook old new result
no_answer Says Good IsSound Asked old new fault (Ok answer) is a sound = absurd is
no_answer Says Good IsSound Asked old new fault (Err e) is a sound =
    subst (λ (f : Fault). Answers layout Asked always AreOfBook old new (Err f)) (sym is) (record {
      says = λ clean. tt;
      good = tt;
      same = λ clean. tt;
      damaged = λ clean same limit tables has of. let at : fault ≡ Damaged = cc in a.damaged clean (ap Err at) limit tables has (sound tables of);
      device = λ clean same. let at : fault ≡ Device = cc in a.device clean (ap Err at);
      undone = a.undone;
      crash = a.crash;
    })

-- ---- how far the book goes

-- the migration of a book is that of the tables
one_place : (tables : Tables) (entries : List Entry) (extent : Extent) → IsExtent extent tables → (stand : StandFor tables entries)
    → extent ≡ extent_of stand.place entries
one_place tables entries extent is stand =
    let rows : migration_row extent.place ∷ [] ≡ migration_row stand.place ∷ [] = sym is.1 ∙ stand.migration in
    let row : migration_row extent.place ≡ migration_row stand.place = cc in
    let place : extent.place ≡ stand.place = ap (λ (row : MigrationRow). row.entries) row in
    let count : extent.entries ≡ length entries =
    is.0 ∙ ap (λ (rows : List EntryRow). unwrap_or (greatest_number rows) 0) stand.entry ∙ greatest_counts entries in
    ap (λ (n : ℕ). record { entries = n; place = extent.place }) count
    ∙ ap (λ (n : ℕ). record { entries = length entries; place = n }) place

-- the tables were asked, and answered
pub measured : (old new last : State) (extent : Extent) → last ≡ new → Answers layout IsExtent always AreOfBook old new (Ok extent)
    → Measures old last (Ok extent)
measured old new last extent same a = subst (λ (s : State). Measures old s (Ok extent)) (sym same) (record {
  of_book = λ clean entries stands. one_place stands.tables entries extent (a.says clean stands.tables stands.has) stands.stand;
  says = a.says;
  same = λ clean. unchanged_stays old new (a.same clean);
  damaged = λ clean is. cc;
  failed = λ clean is. cc;
  crash = a.crash;
})
