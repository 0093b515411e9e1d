-- What differs between a statement and a book: where memory ends before the book is read, and what is said once it was.
use Rattle.std.specs.Prelude.{◌≡◌, [], ℕ, Bool, true, List, OnOk, Option, Result, Ok, Err}
use Rattle.std.proofs.Common.{refl, sym, ◌∙◌, inl}
use Rattle.std.proofs.KnownBytes.{Appends-nil}
use Rattle.std.proofs.lemmas.Bool.{true≢false}
use Rattle.sqlite.specs.Held.{state}
use Rattle.sqlite.specs.Store.{Ghosts}
use Rattle.lot_book_report.specs.Fault.{HasCause}
use Rattle.lot_book_report.specs.declared.fault.ShowFault.{ShowFault}
use Rattle.lot_book_report.specs.declared.fault.ShowFault.TheVariants.{Row as AtRow}
use Rattle.lot_book_report.proofs.ReadLemmas.{read_none, reads_cut}
use Rattle.lot_cli.proofs.ReportLemmas.{shows_book}
use Rattle.lot_cli.specs.Reconcile.{differences_writing}
use Rattle.lot_cli.specs.Reports.{Concludes, ShowsBook}
use Rattle.lot_io.specs.Writes.{WriteCalls}
use Rattle.lot_legs.specs.declared.leg.DatedLeg.{DatedLeg}
use Rattle.lot_reconcile.specs.Table.{Agrees, IsTable, Terms}
use Rattle.lot_reconcile.specs.declared.table.Reconciliation.{Reconciliation}
use Rattle.lot_report.specs.declared.fault.ReportFault.{ReportFault}
use Rattle.lot_report.specs.declared.fault.ReportFault.TheVariants.{Memory, Range, Write}
use Rattle.lot_report.specs.declared.fault.RowFault.TheVariants.{Report}
use Rattle.lot_store.specs.declared.book.Book.{Book}
use Rattle.lot_store.specs.declared.book.Condition.TheVariants.{NeedsReopen as Unusable, Ready}
use Rattle.lot_stream.specs.declared.status.Status.TheVariants.{Accepted}

-- the table says whether nothing differs, where it has taken all legs
pub agreed : (terms : Terms) (legs : List DatedLeg) (table : Reconciliation) (agrees : Bool) (shown : Result (Unit {0}) ShowFault)
    → ((ts : Terms) (ls : List DatedLeg) → IsTable ts ls table → Agrees ts ls agrees)
    → OnOk shown (IsTable terms legs table) → OnOk shown (Agrees terms legs agrees)
agreed terms legs table agrees (Ok done) says taken = says terms legs taken
agreed terms legs table agrees (Err fault) says taken = tt

-- there is no memory for a table
pub short_of_memory : {S : Type 0} (g : Ghosts S) (terms : Terms) (book : Book S g) (fault : ReportFault) → fault ≡ Memory → book.condition ≡ Ready
    → (before written : Option (List ℕ)) (first last : Option WriteCalls) (status : ℕ)
    → ((earlier : Option WriteCalls) → HasCause (Err (AtRow (Report fault))) (record { before = earlier; after = first })
    → Concludes Accepted (Err (AtRow (Report fault))) before written (record { before = first; after = last }) status)
    → ShowsBook (differences_writing terms true) (state g book.conn) (state g book.conn) before written (record { before = first; after = last }) status
short_of_memory g terms book Range is ready before written first last status concludes = cc
short_of_memory g terms book Write is ready before written first last status concludes = cc
short_of_memory g terms book Memory is ready before written first last status concludes =
    let cause : HasCause (Err (AtRow (Report Memory))) (record { before = first; after = first }) = λ writer. absurd (true≢false (sym writer)) in
    shows_book g (differences_writing terms true) book book (Err (AtRow (Report Memory))) before before written first first last status ready
    (reads_cut g book book (Report Memory) (λ spent. cc) (read_none g book book refl) (λ unusable. let none : Ready ≡ Unusable = sym ready ∙ unusable in cc))
    (record { holds = λ clean entries stands. (inl (Appends-nil before), tt) })
    ([], inl (Appends-nil before))
    (record { holds = λ clean tables has. tt })
    cause (concludes first cause)
