-- What is read of a book in several passes, one behind another.
use Rattle.std.specs.Prelude.{Bool, false, true, Result, Ok, Err}
use Rattle.std.proofs.lemmas.Bool.{true≢false}
use Rattle.std.proofs.Common.{◌≡◌, ◌≢◌, ℕ, List, refl, sym, subst, ◌∙◌}
use Rattle.sqlite.specs.Held.{state}
use Rattle.sqlite.specs.State.{HasCleanDisk}
use Rattle.sqlite.specs.Store.{Ghosts}
use Rattle.lot_book.specs.Facts.{Entry}
use Rattle.lot_book_report.proofs.CsvLemmas.{walked}
use Rattle.lot_book_report.proofs.HoldingLemmas.{same_fault}
use Rattle.lot_book_report.proofs.ReadLemmas.{IsRead, reads_cut, reads_whole, was_read}
use Rattle.lot_book_report.specs.Dump.{HoldsOfPlacedBook}
use Rattle.lot_book_report.specs.Fault.{is_of_writer}
use Rattle.lot_book_report.specs.Show.{HoldsOfTables, IsOfBook, ReadsBook}
use Rattle.lot_book_report.specs.declared.fault.ShowFault.{ShowFault}
use Rattle.lot_book_report.specs.declared.fault.ShowFault.TheVariants.{Row as AtRow, Walk as AtWalk}
use Rattle.lot_report.specs.Report.{report_fault}
use Rattle.lot_report.specs.declared.fault.ReportFault.{ReportFault}
use Rattle.lot_report.specs.declared.fault.ReportFault.TheVariants.{Memory, Range, Write}
use Rattle.lot_report.specs.declared.fault.RowFault.TheVariants.{Report, Spent}
use Rattle.lot_report.specs.declared.line.PrintFault.{PrintFault}
use Rattle.lot_report.specs.declared.line.PrintFault.TheVariants as print
use Rattle.lot_rows.specs.Tables.{Has, Tables}
use Rattle.lot_store.specs.declared.book.Book.{Book}
use Rattle.lot_store.specs.declared.book.Condition.TheVariants.{NeedsReopen as Unusable}
use Rattle.lot_store.specs.declared.fault.StoreFault.TheVariants.{NeedsReopen}
use Rattle.lot_store.specs.declared.walk.WalkFault.{WalkFault}
use Rattle.lot_store.specs.declared.walk.WalkFault.TheVariants.{Failed}
use Rattle.lot_stored.specs.StandFor.{Stands}
use Rattle.lot_sums.specs.Gather.{Gathers, HasUnfit}
use Rattle.lot_page_report.specs.Read.{Reads}

-- a fault of the report that isn't of the writer
pub not_of_writer : (fault : ReportFault) → fault ≢ Write → is_of_writer (AtRow (Report fault)) ≡ false
not_of_writer Range cause = refl
not_of_writer Memory cause = refl
not_of_writer Write cause = absurd (cause refl)

-- nor is one of rows that are taken
pub gathers_unwritten : {Told Kept : Type 0} (fits : List Told → Told → Bool) (HasTaken : List Told → Kept → Type 0) (rows : List Told) (kept : Kept)
    (fault : ShowFault) → Gathers fits HasTaken rows kept (Err fault) → is_of_writer fault ≡ false
gathers_unwritten fits HasTaken rows kept (AtWalk fault) gathers = refl
gathers_unwritten fits HasTaken rows kept (AtRow (Report Range)) gathers = refl
gathers_unwritten fits HasTaken rows kept (AtRow (Report Memory)) gathers = refl
gathers_unwritten fits HasTaken rows kept (AtRow (Report Write)) gathers = absurd gathers
gathers_unwritten fits HasTaken rows kept (AtRow Spent) gathers = refl

-- where rows told that a sum leaves its range, one does at one of them
pub gathers_unfit : {Told Kept : Type 0} (fits : List Told → Told → Bool) (HasTaken : List Told → Kept → Type 0) (rows : List Told) (kept : Kept)
    (fault : ShowFault) → Gathers fits HasTaken rows kept (Err fault) → fault ≡ AtRow (Report Range) → HasUnfit fits rows
gathers_unfit fits HasTaken rows kept fault gathers is = subst (λ (f : ShowFault). Gathers fits HasTaken rows kept (Err f)) is gathers

-- which never is so where all sums fit
pub never_unfit : {Told : Type 0} (rows : List Told) → HasUnfit (λ (given : List Told) (row : Told). true) rows → ⊥
never_unfit rows (given, row, rest, split, fit, unfit) = true≢false (sym unfit)

-- a fault of the book isn't one of a sum
pub book_in_range : (fault : ShowFault) → IsOfBook fault → fault ≢ AtRow (Report Range)
book_in_range (AtWalk fault) is same = cc
book_in_range (AtRow fault) is same = is

-- the same fault in another result
pub same_error : {A : Type 0} (fault other : ShowFault) → ◌≡◌ {A = Result A ShowFault} (Err fault) (Err other) → fault ≡ other
same_error fault other is = cc

pub same_report : (fault other : ReportFault) → AtRow (Report fault) ≡ AtRow (Report other) → fault ≡ other
same_report fault other is = cc

-- neither a fault of the book nor one of a text that is written is one of a sum
pub walk_in_range : (fault : WalkFault) → ◌≢◌ {A = Result (Unit {0}) ShowFault} (Err (AtWalk fault)) (Err (AtRow (Report Range)))
walk_in_range fault is = cc

pub print_in_range : (fault : PrintFault) → ◌≢◌ {A = Result (Unit {0}) ShowFault} (Err (AtRow (Report (report_fault fault)))) (Err (AtRow (Report Range)))
print_in_range print.Memory is = cc
print_in_range print.Write is = cc

module _ {S : Type 0} (g : Ghosts S) where
  pub usable : {A : Type 0} (old new : Book S g) (made : A) → ReadsBook {A = A} g old new (Ok made) → old.condition ≢ Unusable
  usable {A} old new made reads spent =
      let is : ◌≡◌ {A = Result A ShowFault} (Ok made) (Err (AtWalk (Failed NeedsReopen))) = reads.reopen.1 spent in cc

  -- a book that was read without a fault needs reopening no more than before
  pub usable_still : (old new : Book S g) → IsRead g old new → old.condition ≢ Unusable → new.condition ≢ Unusable
  usable_still old new read usable spent = usable (sym read.condition ∙ spent)

  -- where the fault is that a sum leaves its range, one of the book does
  abbrev pub WhereOut : (LeavesRange : List Entry → Type 0) (old new : Book S g) → ShowFault → Type 0
  WhereOut LeavesRange old new fault =
      HasCleanDisk (state g new.conn) → (entries : List Entry) → Stands (state g old.conn) entries → fault ≡ AtRow (Report Range) → LeavesRange entries

  -- what isn't read, and what is
  module _ {B : Type 0} (OfBook : ℕ → List Entry → B → Type 0) (OfTables : Tables → B → Type 0) (Any : B → Type 0)
      (LeavesRange : List Entry → Type 0) (old new : Book S g) where
    pub unread : {A : Type 0} (fault : ShowFault) → ReadsBook {A = A} g old new (Err fault) → is_of_writer fault ≡ false → WhereOut LeavesRange old new fault
        → Reads {A = B} g old new OfBook OfTables Any LeavesRange (Err fault)
    unread {A} fault reads unwritten out = record {
      book = record { holds = λ clean entries stands. tt };
      tables = record { holds = λ clean tables has. tt };
      any = tt;
      range = record { holds = λ clean entries stands is. out clean entries stands (same_error {A = B} fault (AtRow (Report Range)) is) };
      reads = same_fault {A = A} {B = B} g old new fault reads;
      unwritten = unwritten;
    }

    -- it was read, but it isn't made
    pub short_of : (fault : ReportFault) → fault ≢ Write → IsRead g old new → old.condition ≢ Unusable
        → WhereOut LeavesRange old new (AtRow (Report fault))
        → Reads {A = B} g old new OfBook OfTables Any LeavesRange (Err (AtRow (Report fault)))
    short_of fault cause read fit out = record {
      book = record { holds = λ clean entries stands. tt };
      tables = record { holds = λ clean tables has. tt };
      any = tt;
      range = record {
        holds = λ clean entries stands is. out clean entries stands (same_error {A = B} (AtRow (Report fault)) (AtRow (Report Range)) is);
      };
      reads = reads_cut g {A = B} old new (Report fault) (λ is. cc) read fit;
      unwritten = not_of_writer fault cause;
    }

    -- what is made of it
    pub made_of : (made : B) → IsRead g old new → old.condition ≢ Unusable
        → HoldsOfPlacedBook g old new (λ place entries. OfBook place entries made) → HoldsOfTables g old new (λ tables. OfTables tables made)
        → Any made → Reads {A = B} g old new OfBook OfTables Any LeavesRange (Ok made)
    made_of made read fit book tables any = record {
      book = book;
      tables = tables;
      any = any;
      range = record { holds = λ clean entries stands is. absurd cc };
      reads = reads_whole g {A = B} old new made read fit;
      unwritten = tt;
    }

  -- what a walk over the book was gathered into
  module _ {A : Type 0} (OfBook : ℕ → List Entry → A → Type 0) (OfTables : Tables → A → Type 0) (Any : A → Type 0)
      (LeavesRange : List Entry → Type 0) (old start ended new : Book S g) (same : start ≡ old) (is : new ≡ ended) where
    ends_out : (fault : ShowFault) → WhereOut LeavesRange old ended fault → WhereOut LeavesRange old new fault
    ends_out fault out clean = out (subst (λ (b : Book S g). HasCleanDisk (state g b.conn)) is clean)

    pub gathered_none : (fault : ShowFault) → ReadsBook {A = Unit {0}} g start ended (Err fault) → is_of_writer fault ≡ false
        → WhereOut LeavesRange old ended fault
        → Reads {A = A} g old new OfBook OfTables Any LeavesRange (Err fault)
    gathered_none fault reads unwritten out =
        unread OfBook OfTables Any LeavesRange old new {A = Unit {0}} fault (walked {A = Unit {0}} g old start ended new (Err fault) same is reads)
        unwritten (ends_out fault out)

    pub gathered_out : (done : Unit {0}) (fault : ReportFault) → fault ≢ Write → ReadsBook {A = Unit {0}} g start ended (Ok done)
        → WhereOut LeavesRange old ended (AtRow (Report fault)) → Reads {A = A} g old new OfBook OfTables Any LeavesRange (Err (AtRow (Report fault)))
    gathered_out done fault cause reads out =
        let was = walked {A = Unit {0}} g old start ended new (Ok done) same is reads in
        short_of OfBook OfTables Any LeavesRange old new fault cause (was_read g {A = Unit {0}} old new done was)
        (usable {A = Unit {0}} old new done was) (ends_out (AtRow (Report fault)) out)

    pub gathered_all : (done : Unit {0}) (made : A) → ReadsBook {A = Unit {0}} g start ended (Ok done)
        → (HasCleanDisk (state g ended.conn) → (entries : List Entry) (stands : Stands (state g old.conn) entries) → OfBook stands.stand.place entries made)
        → (HasCleanDisk (state g ended.conn) → (tables : Tables) → Has (state g old.conn) tables → OfTables tables made)
        → Any made → Reads {A = A} g old new OfBook OfTables Any LeavesRange (Ok made)
    gathered_all done made reads book tables any =
        let was = walked {A = Unit {0}} g old start ended new (Ok done) same is reads in
        record {
          book = record { holds = λ clean entries stands. book (subst (λ (b : Book S g). HasCleanDisk (state g b.conn)) is clean) entries stands };
          tables = record { holds = λ clean all has. tables (subst (λ (b : Book S g). HasCleanDisk (state g b.conn)) is clean) all has };
          any = any;
          range = record { holds = λ clean entries stands is. absurd cc };
          reads = reads_whole g {A = A} old new made (was_read g {A = Unit {0}} old new done was) (usable {A = Unit {0}} old new done was);
          unwritten = tt;
        }
