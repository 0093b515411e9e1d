-- A report of a database that was only looked at before is a report of the database as it was.
use Rattle.std.proofs.Common.{◌≡◌, ◌≢◌, ◌∙◌, ◌++◌, inl, inr, ℕ, IsTrue, List, None, Ok, Err, Option, Result, refl, subst, sym}
use Rattle.std.proofs.KnownBytes.{Appends-nil}
use Rattle.std.proofs.lemmas.Bool.{true≢false}
use Rattle.sqlite.specs.Held.{state}
use Rattle.sqlite.specs.State.{HasCleanDisk, IsUnchanged, State, Survives}
use Rattle.sqlite.specs.Store.{Ghosts}
use Rattle.lot_book.specs.Facts.{Entry}
use Rattle.lot_page.specs.Cursor.{Stays}
use Rattle.lot_rows.specs.Tables.{Has, Tables}
use Rattle.lot_cli.specs.Reports.{Concludes, Reports, ShowsBook, ShowsDigest, Writing, digest_text, verified_line}
use Rattle.lot_io.specs.Writes.{HasFailed, WriteCalls, WritesMade}
use Rattle.lot_report.specs.Report.{report_fault}
use Rattle.lot_report.specs.Written.{AppendsPrefix, WritesLine}
use Rattle.lot_report.specs.declared.fault.RowFault.TheVariants.{Report as OfReport}
use Rattle.lot_report.specs.declared.line.PrintFault.{PrintFault}
use Rattle.lot_report.specs.declared.line.PrintFault.TheVariants as print
use Rattle.lot_cli.specs.Says.{Halts, Told}
use Rattle.lot_cli.specs.declared.halt.Halt.TheVariants as halt
use Rattle.lot_book_report.specs.Fault.{HasCause, is_of_writer}
use Rattle.lot_book_report.specs.Dump.{HoldsOfPlacedBook, digest_line}
use Rattle.lot_book_report.specs.Show.{HoldsOfBook, HoldsOfTables, IsOfBook, ReadsBook, UnlessStopped}
use Rattle.lot_book_report.specs.declared.digest.BookDigest.{BookDigest}
use Rattle.lot_book_report.specs.declared.fault.ShowFault.{ShowFault}
use Rattle.lot_book_report.specs.declared.fault.ShowFault.TheVariants.{Row as AtRow, Walk as AtWalk}
use Rattle.lot_store.proofs.ApplyLemmas.{stands_along}
use Rattle.lot_rows.proofs.StateLemmas.{early, survives_both}
use Rattle.lot_walk.proofs.PlaceLemmas.{failed_after, has_still, stays_then, unchanged_stays}
use Rattle.lot_store.specs.Create.{IsHandedBack, IsTaken, TellsBook, TellsOf}
use Rattle.lot_store.specs.declared.book.Book.{Book}
use Rattle.lot_store.specs.declared.book.Condition.TheVariants.{NeedsReopen as Unusable, Ready}
use Rattle.lot_store.specs.declared.fault.AdoptFault.{AdoptFault}
use Rattle.lot_store.specs.declared.fault.AdoptFault.TheVariants as adopt
use Rattle.lot_store.specs.declared.walk.WalkFault.TheVariants.{Ended, Failed}
use Rattle.lot_table.specs.Book.{IsUndone}

unless : (shown : Result (Unit {0}) ShowFault) (P Q : Type 0) → (P → Q) → UnlessStopped shown P → UnlessStopped shown Q
unless (Ok done) P Q f p = f p
unless (Err (AtWalk fault)) P Q f p = tt
unless (Err (AtRow fault)) P Q f p = f p

-- what holds of a book, whatever its place of migration is
pub placed : {S : Type 0} (g : Ghosts S) (old new : Book S g) (Fact : List Entry → Type 0) → HoldsOfBook g old new Fact
    → HoldsOfPlacedBook g old new (λ place. Fact)
placed g old new Fact it = record { holds = λ clean entries stands. it.holds clean entries stands }

-- a report of a book that was only looked at before is one of the book as it was
pub shows_after : (writing : Writing) (old mid new : State) (before written : Option (List ℕ)) (calls : WritesMade) (status : ℕ)
    → (HasCleanDisk mid → Stays old mid) → Survives old mid (λ _. ⊥) → ShowsBook writing mid new before written calls status
    → ShowsBook writing old new before written calls status
shows_after writing old mid new before written calls status same look shows =
    let read = shows.read in
    let still : HasCleanDisk new → Stays old mid = λ clean. same (early mid new read.crash clean) in
    record {
      shown = shows.shown;
      mid = shows.mid;
      between = shows.between;
      read = record {
        device = λ clean is. failed_after old mid new (still clean) look (read.device clean is);
        damaged = λ clean is entries stands. read.damaged clean is entries (stands_along old mid entries (still clean).now stands);
        reopened = read.reopened;
        sure = read.sure;
        going = read.going;
        unspent = read.unspent;
        same = λ clean. unless shows.shown (Stays mid new) (Stays old new) (stays_then old mid new (still clean)) (read.same clean);
        left = λ clean still_open. let kept = read.left clean still_open in (kept.0 ∙ (still clean).now, kept.1 ∙ (still clean).committed);
        crash = survives_both old mid new look read.crash;
      };
      of_book = λ clean entries stands. shows.of_book clean entries (stands_along old mid entries (still clean).now stands);
      some = shows.some;
      rows = λ clean tables has. shows.rows clean tables (has_still old mid tables (still clean) has);
      cause = shows.cause;
      concludes = shows.concludes;
    }

-- a report of the book that was taken up
pub reported : (writing : Writing) (old mid new : State) (before written : Option (List ℕ)) (calls : WritesMade) (told : Told)
    → (HasCleanDisk mid → IsTaken old) → (HasCleanDisk mid → IsUnchanged old mid) → Survives old mid (λ _. ⊥)
    → ShowsBook writing mid new before written calls told.status → told.halt ≡ None → Reports writing old new before written calls told
reported writing old mid new before written calls told found same look shows none =
    inl (
      λ clean. found (early mid new shows.read.crash clean),
      shows_after writing old mid new before written calls told.status (λ clean. unchanged_stays old mid (same clean)) look shows,
      none,
    )

-- a report of a book that can be used
pub shows_book : {S : Type 0} (g : Ghosts S) (writing : Writing) (book later : Book S g) (shown : Result (Unit {0}) ShowFault)
    (before mid written : Option (List ℕ)) (first between last : Option WriteCalls) (status : ℕ) → book.condition ≡ Ready
    → ReadsBook g book later shown
    → HoldsOfPlacedBook g book later (λ place entries. writing.of_book place entries before mid shown)
    → writing.some before mid shown
    → HoldsOfTables g book later (λ tables. writing.rows tables before mid shown)
    → HasCause shown (record { before = first; after = between }) → Concludes writing.whole shown mid written (record { before = between; after = last }) status
    → ShowsBook writing (state g book.conn) (state g later.conn) before written (record { before = first; after = last }) status
shows_book g writing book later shown before mid written first between last status ready reads shows some rows cause concludes = record {
  shown = shown;
  mid = mid;
  between = between;
  read = record {
    device = reads.failed;
    damaged = reads.damaged;
    reopened = λ is. let none : Ready ≡ Unusable = sym ready ∙ reads.reopen.0 is in absurd cc;
    sure = reads.sure;
    going = reads.going;
    unspent = reads.unspent;
    same = reads.same;
    left = reads.left;
    crash = reads.crash;
  };
  of_book = shows.holds;
  some = some;
  rows = rows.holds;
  cause = cause;
  concludes = concludes;
}

-- a digest that the book stops: nothing is written
pub digest_stops : (digest : BookDigest) (start : Option (List ℕ)) (fault : ShowFault) → IsOfBook fault → fault ≢ AtWalk Ended
    → ShowsDigest digest start start (Err fault)
digest_stops digest start (AtWalk (Failed fault)) is going = Appends-nil start
digest_stops digest start (AtWalk Ended) is going = absurd (going refl)
digest_stops digest start (AtRow fault) is going = absurd is

-- one that isn't written whole
pub digest_cut : (digest other : BookDigest) → digest ≡ other → (start now : Option (List ℕ)) (fault : PrintFault) → fault ≡ print.Write
    → WritesLine start now (Err fault) (verified_line ++ digest_line digest) → ShowsDigest other start now (Err (AtRow (OfReport (report_fault fault))))
digest_cut digest other same start now print.Write is part = subst (λ (d : BookDigest). AppendsPrefix start now (digest_text d)) same part
digest_cut digest other same start now print.Memory is part = cc

-- a report that ends for the writer ends so where a call of it failed
pub failed_writer : (fault : ShowFault) (calls : WritesMade) → HasCause (Err fault) calls → IsTrue (is_of_writer fault) → HasFailed calls.after
failed_writer (AtWalk fault) calls none is = absurd (true≢false (sym is))
failed_writer (AtRow fault) calls cause is = cause is

-- the book isn't taken up
pub report_refused : (writing : Writing) (old new : State) (before written : Option (List ℕ)) (calls : WritesMade) (fault : AdoptFault) (told : Told)
    → (HasCleanDisk new → TellsOf old new (Err fault))
    → (HasCleanDisk new → fault ≢ adopt.Device → (tables : Tables) → Has old tables → TellsBook tables.book (Err fault)) → (HasCleanDisk new → IsHandedBack old new)
    → (HasCleanDisk new → IsUndone old new) → Survives old new (λ _. ⊥) → Halts (halt.Adopt fault) before written calls told
    → Reports writing old new before written calls told
report_refused writing old new before written calls fault told tells book back undone crash said =
    inr (fault, record { tells = tells; told = book; handed_back = back; undone = undone; crash = crash }, said)
