-- The rows of the table `entry` are the entries of the book, each with the canonical text of its command.
use Rattle.std.proofs.Common.{◌≡◌, ◌≢◌, ◌∙◌, ℕ, suc, List, [], ◌∷◌, ◌++◌, None, Some, Ok, Err, Option, Result, sym, subst}
use Rattle.std.specs.List.{AllByRecursion}
use Rattle.std.proofs.lemmas.List.Elements.{recursion_from_All}
use Rattle.sqlite.specs.State.{State}
use Rattle.lot_command.specs.Canonical.{canonical}
use Rattle.lot_command.specs.declared.command.Command.{Command}
use Rattle.lot_book.specs.Facts.{Entry}
use Rattle.lot_command.specs.Sayable.{IsSayable}
use Rattle.lot_report.specs.declared.journal.Entry.{Entry as Printed}
use Rattle.lot_read.specs.Text.{Reads}
use Rattle.lot_rows.specs.Entry.{IsEntryRow, entry_cells}
use Rattle.lot_rows.specs.Tables.{Tables}
use Rattle.lot_rows.specs.declared.entry.EntryRow.{EntryRow}
use Rattle.lot_rows.proofs.EntryLemmas.{same_row}
use Rattle.lot_table.specs.declared.fault.Fault.{Fault}
use Rattle.lot_table.specs.declared.fault.Fault.TheVariants.{Damaged, Device}
use Rattle.lot_page.specs.Cursor.{Steps as CursorSteps}
use Rattle.lot_page.proofs.BehindLemmas.{all_rows, behind_rows}
use Rattle.lot_stored.specs.Rows.{entry_rows}
use Rattle.lot_print.specs.Canonical.{IsCanonical as IsTested}
use Rattle.lot_walk.specs.Journal.{AreAllEntryRows, AreEntries, HasCanonicalText, IsBehindEntries, IsBehindEntryRows, IsCanonical, said}
use Rattle.lot_walk.specs.Step.{Steps, StepsOverRows}
use Rattle.lot_walk.specs.declared.journal.JournalPlace.{JournalPlace}

-- ---- the text of one command

-- a canonical text reads as its command
pub reads_as_command : (text : List ℕ) → ((command : Command) → IsSayable command → Reads (canonical command) (command ∷ [])) → IsTested text → IsCanonical text
reads_as_command text reads (command, sayable, is) = (command, is, subst (λ (t : List ℕ). Reads t (command ∷ [])) (sym is) (reads command sayable))

-- ---- rows of the table

-- each row of the table has the canonical text of an entry's command
text_of : (number : ℕ) (entries : List Entry) (given rest : List EntryRow) (row : EntryRow) → AllByRecursion (λ (entry : Entry). IsSayable entry.command) entries
    → (given ++ row ∷ []) ++ rest ≡ entry_rows number entries → (command : Command) × IsSayable command × (row.body ≡ canonical command)
text_of number [] [] rest row said is = absurd cc
text_of number [] (g ∷ given) rest row said is = absurd cc
text_of number (entry ∷ entries) [] rest row said is =
    let head : row.body ≡ canonical entry.command = cc in
    (entry.command, said.0, head)
text_of number (entry ∷ entries) (g ∷ given) rest row said is =
    let tail : (given ++ row ∷ []) ++ rest ≡ entry_rows (suc number) entries = cc in
    text_of (suc number) entries given rest row said.1 tail

-- ---- a step

abbrev unread : Fault → Result (Option EntryRow) Fault
unread fault = Err fault

module _ (before after : JournalPlace) (old new : State) where
  abbrev pub ReadsRow : Result (Option EntryRow) Fault → Type 0
  ReadsRow = CursorSteps entry_cells IsEntryRow (λ (b : Tables). b.entry) before.cursor after.cursor old new

  abbrev pub Gives : Result (Option Printed) Fault → Type 0
  Gives = Steps said HasCanonicalText AreEntries IsBehindEntries Damaged Device before after old new

  pub entry_none : ReadsRow (Ok None) → Gives (Ok None)
  entry_none read = record {
    gives = λ clean tables entries has book stand asked given behind. all_rows entry_cells same_row given tables.entry (read.gives clean tables has given behind) ∙ stand.entry;
    good = tt;
    same = read.same;
    damaged = λ clean is. cc;
    failed = λ clean is. cc;
    crash = read.crash;
  }

  pub entry_next : (row : EntryRow) (entry : Printed) → said entry ≡ row → HasCanonicalText entry → ReadsRow (Ok (Some row)) → Gives (Ok (Some entry))
  entry_next row entry says canonically read = record {
    gives = λ clean tables entries has book stand asked given behind.
        let next = subst (λ (r : EntryRow). IsBehindEntries after tables asked entries (given ++ r ∷ [])) (sym says) (read.gives clean tables has given behind) in
        let rows = behind_rows entry_cells same_row (given ++ said entry ∷ []) tables.entry after.cursor next in (next, (rows.0, rows.1 ∙ stand.entry));
    good = canonically;
    same = read.same;
    damaged = λ clean is. cc;
    failed = λ clean is. cc;
    crash = read.crash;
  }

  pub entry_unread : (fault : Fault) → ReadsRow (Err fault) → Gives (Err fault)
  entry_unread fault read = record {
    gives = λ clean. tt;
    good = tt;
    same = λ clean. tt;
    damaged = λ clean is limit tables entries has book stand asked given behind.
        let of : unread fault ≡ Err Damaged = cc in read.damaged clean of limit tables has given behind stand.good.entry;
    failed = λ clean is. let of : unread fault ≡ Err Device = cc in read.device clean of;
    crash = read.crash;
  }

  -- a row whose text isn't canonical is in the table of no book
  pub entry_refused : (row : EntryRow) (fault : Fault) → fault ≢ Device → (fault ≡ Damaged → (command : Command) → IsSayable command → row.body ≢ canonical command)
      → ReadsRow (Ok (Some row)) → Gives (Err fault)
  entry_refused row fault apart damaged read = record {
    gives = λ clean. tt;
    good = tt;
    same = λ clean. tt;
    damaged = λ clean is limit tables entries has book stand asked given behind.
        let of : fault ≡ Damaged = cc in
        let next = read.gives clean tables has given behind in
        let rows = behind_rows entry_cells same_row (given ++ row ∷ []) tables.entry after.cursor next in
        let text = text_of 1 entries given rows.0 row (recursion_from_All (λ (entry : Entry). IsSayable entry.command) entries stand.said) (rows.1 ∙ stand.entry) in
        damaged of text.0 text.1 text.2;
    failed = λ clean is. let of : fault ≡ Device = cc in absurd (apart of);
    crash = read.crash;
  }

  -- ---- rows of a table that may be those of no book

  abbrev pub GivesRows : Result (Option Printed) Fault → Type 0
  GivesRows = StepsOverRows said AreAllEntryRows IsBehindEntryRows before after old new

  pub entry_rows_end : ReadsRow (Ok None) → GivesRows (Ok None)
  entry_rows_end read = λ clean tables has asked given behind. all_rows entry_cells same_row given tables.entry (read.gives clean tables has given behind)

  pub entry_rows_next : (row : EntryRow) (entry : Printed) → said entry ≡ row → ReadsRow (Ok (Some row)) → GivesRows (Ok (Some entry))
  entry_rows_next row entry says read = λ clean tables has asked given behind.
      subst (λ (r : EntryRow). IsBehindEntryRows after tables asked (given ++ r ∷ [])) (sym says) (read.gives clean tables has given behind)
