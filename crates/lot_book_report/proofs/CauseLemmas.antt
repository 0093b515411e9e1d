-- A report that ends for the writer, and why the others don't.
use Rattle.std.proofs.Common.{◌≡◌, refl, sym}
use Rattle.std.proofs.lemmas.Bool.{true≢false}
use Rattle.std.specs.Prelude.{Result, Ok, Err, IsErrAnd}
use Rattle.lot_io.specs.Writes.{HasFailed, NoneFailed, WritesMade}
use Rattle.lot_report.specs.declared.fault.ReportFault.TheVariants as report
use Rattle.lot_report.specs.declared.fault.RowFault.{RowFault}
use Rattle.lot_report.specs.declared.fault.RowFault.TheVariants.{Report, Spent}
use Rattle.lot_report.specs.declared.journal.JournalFault.{JournalFault}
use Rattle.lot_report.specs.declared.journal.JournalFault.TheVariants as journal
use Rattle.lot_book_report.specs.Fault.{HasCause, of_journal}
use Rattle.lot_book_report.specs.Show.{IsOfBook}
use Rattle.lot_book_report.specs.declared.fault.ShowFault.{ShowFault}
use Rattle.lot_book_report.specs.declared.fault.ShowFault.TheVariants.{Row, Walk}
use Rattle.lot_store.specs.declared.walk.WalkFault.{WalkFault}

-- the book stops
pub of_walk : (result : Result (Unit {0}) ShowFault) (fault : WalkFault) (calls : WritesMade) → IsErrAnd result (λ e. e ≡ Walk fault)
    → NoneFailed calls.before calls.after → HasCause result calls
of_walk (Ok done) fault calls is none = absurd is
of_walk (Err e) fault calls is none = rw (is) none

-- the report ends at a row, or at its end
pub of_row : (result : Result (Unit {0}) ShowFault) (fault : RowFault) (calls : WritesMade) → IsErrAnd result (λ e. e ≡ Row fault)
    → (fault ≡ Report report.Write → HasFailed calls.after) → HasCause result calls
of_row (Ok done) fault calls is failed = absurd is
of_row (Err e) (Report report.Range) calls is failed = rw (is) (λ writer. absurd (true≢false (sym writer)))
of_row (Err e) (Report report.Write) calls is failed = rw (is) (λ writer. failed refl)
of_row (Err e) (Report report.Memory) calls is failed = rw (is) (λ writer. absurd (true≢false (sym writer)))
of_row (Err e) Spent calls is failed = rw (is) (λ writer. absurd (true≢false (sym writer)))

-- the same of a journal
pub of_entry : (result : Result (Unit {0}) ShowFault) (fault : JournalFault) (calls : WritesMade) → IsErrAnd result (λ e. e ≡ of_journal fault)
    → (fault ≡ journal.Write → HasFailed calls.after) → HasCause result calls
of_entry (Ok done) fault calls is failed = absurd is
of_entry (Err e) journal.Write calls is failed = rw (is) (λ writer. failed refl)
of_entry (Err e) journal.Spent calls is failed = rw (is) (λ writer. absurd (true≢false (sym writer)))

-- what is read before the report stops
pub of_book : (result : Result (Unit {0}) ShowFault) (fault : ShowFault) (calls : WritesMade) → IsErrAnd result (λ e. e ≡ fault)
    → IsOfBook fault → NoneFailed calls.before calls.after → HasCause result calls
of_book (Ok done) fault calls is book none = absurd is
of_book (Err e) (Walk fault) calls is book none = rw (is) none
of_book (Err e) (Row fault) calls is book none = absurd book
