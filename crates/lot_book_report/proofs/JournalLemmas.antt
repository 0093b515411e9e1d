-- What is written of the entries that a walk gives.
use Rattle.std.proofs.Common.{◌≡◌, ◌≢◌, ◌∙◌, [], ◌∷◌, ◌++◌, List, ℕ, Option, Ok, Err, map, append_assoc, refl, sym, ap, subst}
use Rattle.std.proofs.lemmas.List.{append-nil}
use Rattle.std.specs.Prelude.{OnOk, Result}
use Rattle.std.specs.Io.KnownBytes.{Appends}
use Rattle.sqlite.specs.Store.{Ghosts}
use Rattle.lot_book.specs.Facts.{Entry}
use Rattle.lot_stored.specs.Rows.{entry_rows}
use Rattle.lot_report.proofs.EachLemmas.{text_more}
use Rattle.lot_report.specs.Journal.{GrowsByEntry, entry_text, journal_text as printed_text}
use Rattle.lot_report.specs.declared.fault.ReportFault.TheVariants as report
use Rattle.lot_report.specs.declared.fault.RowFault.TheVariants.{Report}
use Rattle.lot_report.specs.declared.journal.Entry.{Entry as Printed}
use Rattle.lot_report.specs.declared.journal.JournalFault.TheVariants.{Write, Spent}
use Rattle.lot_report.specs.declared.journal.JournalFault.{JournalFault}
use Rattle.lot_rows.specs.declared.entry.EntryRow.{EntryRow}
use Rattle.lot_book_report.proofs.GivenLemmas.{Gave}
use Rattle.lot_book_report.proofs.ReadLemmas.{IsRead, reads_cut}
use Rattle.lot_book_report.specs.Fault.{of_journal}
use Rattle.lot_book_report.specs.Journal.{HearsMore, ShowsJournal, ShowsSomeHeard, journal_text}
use Rattle.lot_book_report.specs.Show.{ReadsBook}
use Rattle.lot_book_report.specs.declared.fault.ShowFault.TheVariants.{Walk as AtWalk}
use Rattle.lot_walk.specs.Journal.{AreEntries, IsBehindEntries, IsBehindEntryRows, said}
use Rattle.lot_walk.specs.Step.{IsPrefix}
use Rattle.lot_store.specs.declared.book.Book.{Book}
use Rattle.lot_store.specs.declared.book.Condition.TheVariants.{NeedsReopen}
use Rattle.lot_store.specs.declared.fault.StoreFault.{StoreFault}
use Rattle.lot_store.specs.declared.walk.Walk.{Walk}
use Rattle.lot_store.specs.declared.walk.WalkFault.TheVariants.{Failed}
use Rattle.lot_walk.specs.declared.journal.JournalPlace.{JournalPlace}

-- the text of entries is that of their rows
told : (printed : List Printed) → printed_text printed ≡ journal_text (map said printed)
told [] = refl
told (entry ∷ printed) = ap (λ (text : List ℕ). entry_text entry ++ text) (told printed)

said_with : (printed : List Printed) (entry : Printed) → map said (printed ++ entry ∷ []) ≡ map said printed ++ said entry ∷ []
said_with [] entry = refl
said_with (first ∷ printed) entry = ap (λ (rows : List EntryRow). said first ∷ rows) (said_with printed entry)

-- a walk that began at the book has given entries, and their text is written behind what the writer held, and heard
pub record HasWritten {S : Type 0} (g : Ghosts S) (book : Book S g) (start : Option (List ℕ)) (Was Is : List ℕ → Type 0) (walk : Walk S JournalPlace g) (now : Option (List ℕ)) : Type 0 where
  pub printed : List Printed
  pub gave : Gave g AreEntries IsBehindEntries IsBehindEntryRows book tt walk (map said printed)
  pub written : Appends start now (printed_text printed)
  pub heard : HearsMore Was Is (printed_text printed)

module _ {S : Type 0} {g : Ghosts S} {book : Book S g} (start : Option (List ℕ)) {Was Is : List ℕ → Type 0} (before : Walk S JournalPlace g) (now : Option (List ℕ))
    (has : HasWritten g book start Was Is before now) where
  as_rows : Appends start now (journal_text (map said has.printed))
  as_rows = subst (λ (text : List ℕ). Appends start now text) (told has.printed) has.written

  -- the book stops
  pub stopped : (fault : StoreFault) (entries : List Entry) → IsPrefix AreEntries tt entries (map said has.printed)
      → ShowsJournal (entry_rows 1 entries) start now (Err (AtWalk (Failed fault))) × Unit {0}
  stopped fault entries (rest, all) = ((map said has.printed, rest, sym all, as_rows), tt)

  pub some_stopped : (fault : StoreFault) → (rows : List EntryRow) × (ShowsJournal rows start now (Err (AtWalk (Failed fault))) × Unit {0})
  some_stopped fault = let rows = map said has.printed in (rows, ((rows, [], sym (append-nil rows), as_rows), tt))

  -- all is written
  pub whole : (rows : List EntryRow) → map said has.printed ≡ rows
      → Appends start now (journal_text rows) × HearsMore Was Is (journal_text rows)
  whole rows all = (
    subst (λ (given : List EntryRow). Appends start now (journal_text given)) all as_rows,
    λ message was. subst (λ (text : List ℕ). Is (message ++ text)) (told has.printed ∙ ap journal_text all) (has.heard message was),
  )

  pub some_whole : ShowsSomeHeard (HearsMore Was Is) start now (Ok tt)
  some_whole = (map said has.printed, whole (map said has.printed) refl)

  module _ (entry : Printed) (later : Option (List ℕ)) where
    -- one more entry is written
    pub grown : (Then : List ℕ → Type 0) (after : Walk S JournalPlace g)
        → Gave g AreEntries IsBehindEntries IsBehindEntryRows book tt after (map said has.printed ++ said entry ∷ [])
        → GrowsByEntry has.printed entry start later (Ok tt) → HearsMore Is Then (entry_text entry)
        → HasWritten g book start Was Then after later
    grown Then after gave grows hears = record {
      printed = has.printed ++ entry ∷ [];
      gave = subst (λ (rows : List EntryRow). Gave g AreEntries IsBehindEntries IsBehindEntryRows book tt after rows) (sym (said_with has.printed entry)) gave;
      written = grows;
      heard = λ message was.
          subst Then (append_assoc message (printed_text has.printed) (entry_text entry) ∙ ap (λ (text : List ℕ). message ++ text) (sym (text_more entry_text has.printed entry)))
          (hears (message ++ printed_text has.printed) (has.heard message was));
    }

    -- the writer fails
    cut_at : (rows : List EntryRow) (fault : JournalFault) → ((fault ≡ Spent) → ⊥) → (rest : List EntryRow) → (rows ≡ map said has.printed ++ said entry ∷ rest)
        → GrowsByEntry has.printed entry start later (Err fault) → ShowsJournal rows start later (Err (of_journal fault))
    cut_at rows Write fresh rest all (part, proper, appended) =
        (map said has.printed, said entry, rest, all, part, proper, subst (λ (text : List ℕ). Appends start later (text ++ part)) (told has.printed) appended)
    cut_at rows Spent fresh rest all appended = absurd (fresh refl)

    pub cut : (fault : JournalFault) → ((fault ≡ Spent) → ⊥) → GrowsByEntry has.printed entry start later (Err fault) → (entries : List Entry)
        → IsPrefix AreEntries tt entries (map said has.printed ++ said entry ∷ []) → ShowsJournal (entry_rows 1 entries) start later (Err (of_journal fault)) × Unit {0}
    cut fault fresh grows entries (rest, all) =
        (cut_at (entry_rows 1 entries) fault fresh rest (sym (sym (append_assoc (map said has.printed) (said entry ∷ []) rest) ∙ all)) grows, tt)

    pub some_cut : (fault : JournalFault) → ((fault ≡ Spent) → ⊥) → GrowsByEntry has.printed entry start later (Err fault)
        → (rows : List EntryRow) × (ShowsJournal rows start later (Err (of_journal fault)) × Unit {0})
    some_cut fault fresh grows = let rows = map said has.printed ++ said entry ∷ [] in (rows, (cut_at rows fault fresh [] refl grows, tt))

-- the fault of the journal is one of the writer, and leaves the book as it was
pub journal_cut : {S : Type 0} (g : Ghosts S) (old new : Book S g) (fault : JournalFault) → ((fault ≡ Spent) → ⊥) → IsRead g old new
    → old.condition ≢ NeedsReopen → ReadsBook {A = Unit {0}} g old new (Err (of_journal fault))
journal_cut g old new Write fresh read usable = reads_cut g old new (Report report.Write) (λ is. cc) read usable
journal_cut g old new Spent fresh read usable = absurd (fresh refl)

-- what is written, without what is heard
pub whatever_is_heard : {A E : Type 0} (Writes Hears : Type 0) (result : Result A E) → OnOk result (Writes × Hears) → OnOk result Writes
whatever_is_heard Writes Hears (Ok made) both = both.0
whatever_is_heard Writes Hears (Err fault) both = tt
