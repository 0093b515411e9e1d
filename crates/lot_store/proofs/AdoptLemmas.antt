-- The columns of the table `book`, and what is told of them.
use Rattle.std.proofs.Common.{◌≡◌, ◌≢◌, ◌<◌, ◌≤◌, inl, inr, IsTrue, Ok, Err, None, List, [], ◌∷◌, OnOk, Result, length, refl, subst, sym, get_or, arith, codes, ℕ}
use Rattle.std.proofs.lemmas.Str.Ascii.{IsAscii-cons, IsAscii-nil}
use Rattle.std.proofs.lemmas.Str.{IsUtf8-from_ascii}
use Rattle.std.specs.List.{AllByRecursion}
use Rattle.std.specs.Str.{IsAscii, IsUtf8}
use Rattle.sqlite.specs.Order.{Row}
use Rattle.sqlite.specs.Clock.{timed as times}
use Rattle.sqlite.specs.State.{IsUnchanged, Shown, ShowsRows, State}
use Rattle.lot_rows.proofs.BookLemmas.{list_is, list_refused, list_rows}
use Rattle.lot_rows.specs.Book.{IsBookRow, book_cells}
use Rattle.lot_rows.specs.Tables.{Has, Tables}
use Rattle.lot_rows.specs.declared.book.BookRow.{BookRow}
use Rattle.lot_table.proofs.SelectLemmas.{shown_same, silent_text}
use Rattle.lot_table.specs.Statement.{DiskFailed, IsSelect, Refused}
use Rattle.lot_table.specs.declared.fault.Fault.{Fault}
use Rattle.lot_table.specs.declared.fault.Fault.TheVariants.{Damaged, Device, Memory}
use Rattle.lot_store.specs.Create.{IsTaken, IsUnanswered, TellsBook, TellsColumns, TellsOf, adopt_fault_of, marks_text}
use Rattle.lot_store.specs.declared.fault.AdoptFault.{AdoptFault}
use Rattle.lot_store.specs.declared.fault.AdoptFault.TheVariants as adopt

-- a list with one item
pub one_item : {X : Type 0} (xs : List X) (d : X) → 1 ≤ length xs → length xs < 2 → xs ≡ get_or xs 0 d ∷ []
one_item [] d least most = absurd (omega (arith, least))
one_item (x ∷ []) d least most = refl
one_item (x ∷ y ∷ xs) d least most = absurd (omega (arith, most))

ascii : (bytes : List ℕ) → AllByRecursion (λ b. b < 128) bytes → IsAscii bytes
ascii [] all = IsAscii-nil
ascii (b ∷ bytes) all = IsAscii-cons b bytes all.0 (ascii bytes all.1)

-- the mark of a book is a text
mark_is_utf8 : IsUtf8 (codes "lot-book")
mark_is_utf8 =
    IsUtf8-from_ascii (codes "lot-book")
    (ascii (codes "lot-book")
    (omega arith, (omega arith, (omega arith, (omega arith, (omega arith, (omega arith, (omega arith, (omega arith, tt)))))))))

-- a row that is read as none that a book can have isn't marked
pub no_mark : (row : Row) (fault : Fault) → fault ≢ Device → (fault ≡ Damaged → (x : BookRow) → IsBookRow x → row ≢ book_cells x)
    → TellsColumns (row ∷ []) (Err (adopt_fault_of fault))
no_mark row Device apart damaged = absurd (apart refl)
no_mark row Memory apart damaged = tt
no_mark row Damaged apart damaged =
    λ edition least marked.
    let book : BookRow = record { mark = codes "lot-book"; edition = edition } in
    let same : row ≡ book_cells book = cc in
    damaged refl book (record { mark = mark_is_utf8 }) same

-- ---- the question for the columns

module _ (old new : State) where
  pub unanswered : (fault : Fault) → Refused marks_text [] old new fault → (fault ≡ Device → DiskFailed old new) → IsUnanswered old new (Err (adopt_fault_of fault))
  unanswered Device refused device = device refl
  unanswered Damaged refused device = refused
  unanswered Memory refused device = tt

  -- in a database with the tables of a book it is answered
  pub tells_book : (result : Result (Unit {0}) AdoptFault) → TellsOf old new result → old.step_limit ≡ None → result ≢ Err adopt.Device → (tables : Tables) → Has old tables
      → TellsBook tables.book result
  tells_book result (inl (rows, shown, tells)) unlimited apart tables has = subst (λ (rs : List Row). TellsColumns rs result) (list_rows old new rows shown tables has) tells
  tells_book (Ok done) (inr none) unlimited apart tables has = absurd none
  tells_book (Err adopt.OlderEdition) (inr none) unlimited apart tables has = absurd none
  tells_book (Err adopt.NewerEdition) (inr none) unlimited apart tables has = absurd none
  tells_book (Err adopt.NotABook) (inr refused) unlimited apart tables has = absurd (list_refused old new refused unlimited tables has)
  tells_book (Err adopt.Device) (inr failed) unlimited apart tables has = absurd (apart refl)
  tells_book (Err adopt.Memory) (inr memory) unlimited apart tables has = tt

-- ---- the mark

-- the database as it was answers the question as it did
module _ (old new : State) where
  shown_before : (rows : List Row) → Shown marks_text [] old new rows → Shown marks_text [] old old rows
  unfolding Shown
  shown_before rows shown =
      let it : IsSelect marks_text = list_is.selects in
      let none = silent_text marks_text it.0 it.1 it.2 old.now.schema shown.0 shown.1.is in
      let params = times [] shown.0.formats shown.1.now in
      let shows = subst (ShowsRows old new marks_text shown.0 params rows) none shown.2 in
      let opened = shows.3.0.was_open in
      let same : IsUnchanged old old = (
        record { was_open = opened; is_open = opened; now_is = refl; committed_is = refl; mode = refl },
        record { changes = refl; last_rowid = refl },
        refl,
      ) in (shown.0, shown.1, subst (ShowsRows old old marks_text shown.0 params rows) (sym none) (shows.0, shows.1, shows.2, same))

  opened_before : (rows : List Row) → Shown marks_text [] old new rows → IsTrue old.is_open
  opened_before rows shown = (shown_same marks_text list_is.selects [] old new rows shown).0.was_open

  pub is_taken : (result : Result (Unit {0}) AdoptFault) → TellsOf old new result → old.step_limit ≡ None → OnOk result (IsTaken old)
  is_taken (Ok done) (inl (rows, shown, tells)) unlimited = record {
    opened = opened_before rows shown;
    marked = (rows, shown_before rows shown, tells);
    told = tells_book old new (Ok done) (inl (rows, shown, tells)) unlimited (λ none. absurd cc);
  }
  is_taken (Ok done) (inr none) unlimited = absurd none
  is_taken (Err fault) tells unlimited = tt
