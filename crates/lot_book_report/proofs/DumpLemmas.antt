-- What is written of a dump, line by line.
use Rattle.std.proofs.Common.{◌≡◌, ◌≢◌, ◌∙◌, inr, ℕ, List, ◌∷◌, ◌++◌, Option, Result, Ok, Err, append_assoc, sym, ap, subst}
use Rattle.std.specs.Prelude.{◌↔◌, codes}
use Rattle.std.specs.Io.KnownBytes.{Appends}
use Rattle.std.proofs.KnownBytes.{Appends-trans}
use Rattle.std.proofs.lemmas.List.Concat.{flat_map-append}
use Rattle.sha2.specs.Sha256.{sha256}
use Rattle.sqlite.specs.Held.{state}
use Rattle.sqlite.specs.State.{HasCleanDisk}
use Rattle.sqlite.specs.Store.{Ghosts}
use Rattle.lot_report.specs.Printed.{line}
use Rattle.lot_report.specs.Report.{report_fault}
use Rattle.lot_report.specs.Written.{AppendsPrefix, IsProperPrefixOf, WritesLine}
use Rattle.lot_report.specs.declared.fault.ReportFault.TheVariants as report
use Rattle.lot_report.specs.declared.fault.RowFault.TheVariants.{Report, Spent}
use Rattle.lot_report.specs.declared.line.PrintFault.{PrintFault}
use Rattle.lot_report.specs.declared.line.PrintFault.TheVariants as print
use Rattle.lot_page.specs.Cursor.{Stays}
use Rattle.lot_rows.specs.Tables.{Tables}
use Rattle.lot_rows.specs.declared.entry.EntryRow.{EntryRow}
use Rattle.lot_book_report.proofs.ReadLemmas.{IsRead, reads_cut}
use Rattle.lot_book_report.specs.Dump.{EndsDump, ShowsBody, ShowsBodyOfTables, digest_of, dump_body, dump_end, dump_head, dump_text}
use Rattle.lot_book_report.specs.Journal.{HearsMore, ShowsAllHeard, ShowsHeard, ShowsJournal, journal_text, row_text}
use Rattle.lot_book_report.specs.Show.{ReadsBook, UnlessStopped, condition_after}
use Rattle.lot_book_report.specs.declared.digest.BookDigest.{BookDigest}
use Rattle.lot_book_report.specs.declared.fault.ShowFault.{ShowFault}
use Rattle.lot_book_report.specs.declared.fault.ShowFault.TheVariants.{Row as AtRow, Walk as AtWalk}
use Rattle.lot_store.specs.Extent.{IsExtent, Measures}
use Rattle.lot_store.specs.Step.{LeavesTables, condition_from}
use Rattle.lot_store.specs.declared.book.Book.{Book}
use Rattle.lot_store.specs.declared.book.Condition.TheVariants.{NeedsReopen as Unusable}
use Rattle.lot_store.specs.declared.extent.Extent.{Extent}
use Rattle.lot_store.specs.declared.fault.StoreFault.{StoreFault}
use Rattle.lot_store.specs.declared.fault.StoreFault.TheVariants.{Damaged, Device, InDoubt, Memory, NeedsReopen}
use Rattle.lot_store.specs.declared.walk.WalkFault.TheVariants.{Ended, Failed}

-- ---- prefixes

-- a prefix of a text is one of a longer text
longer : (start now : Option (List ℕ)) (text rest : List ℕ) → AppendsPrefix start now text → AppendsPrefix start now (text ++ rest)
longer start now text rest (part, (next, more, is), appended) = (
  part,
  (next, more ++ rest, ap (λ (all : List ℕ). all ++ rest) is ∙ append_assoc part (next ∷ more) rest),
  appended,
)

-- what stands before is written, and then a prefix
behind : (start mid now : Option (List ℕ)) (before text : List ℕ) → Appends start mid before → AppendsPrefix mid now text
    → AppendsPrefix start now (before ++ text)
behind start mid now before text first (part, (next, more, is), appended) = (
  before ++ part,
  (next, more, ap (λ (all : List ℕ). before ++ all) is ∙ sym (append_assoc before part (next ∷ more))),
  Appends-trans start mid now before part first appended,
)

-- ---- the first line, and the entries

-- the pieces of the first line
pub head_pieces : (place entries : List ℕ)
    → codes "; lotbook dump 1 edition 2 migrated " ++ (place ++ (codes " entries " ++ (entries ++ codes "\n")))
    ≡ line (codes "; lotbook dump 1 edition 2 migrated " ++ place ++ codes " entries " ++ entries)
head_pieces place entries =
    ap (λ (rest : List ℕ). codes "; lotbook dump 1 edition 2 migrated " ++ rest)
    (sym (append_assoc (place ++ codes " entries ") entries (codes "\n") ∙ append_assoc place (codes " entries ") (entries ++ codes "\n")))

module _ (extent : Extent) (rows : List EntryRow) (start mid : Option (List ℕ)) where
  -- the first line isn't whole
  pub head_stops : (fault : PrintFault) → fault ≡ print.Write → WritesLine start mid (Err fault) (dump_head extent)
      → EndsDump extent rows (dump_body extent rows) start mid (AtRow (Report (report_fault fault)))
  head_stops print.Write is part = longer start mid (dump_head extent) (journal_text rows) part
  head_stops print.Memory is part = cc

  module _ (now : Option (List ℕ)) (head : Appends start mid (dump_head extent)) where
    entries_cut : (given : List EntryRow) (row : EntryRow) (rest : List EntryRow) → rows ≡ given ++ row ∷ rest → (part : List ℕ)
        → IsProperPrefixOf part (row_text row) → Appends mid now (journal_text given ++ part) → AppendsPrefix start now (dump_body extent rows)
    entries_cut given row rest all part (next, more, is) appended =
        behind start mid now (dump_head extent) (journal_text rows) head (
          journal_text given ++ part,
          (
            next,
            more ++ journal_text rest,
            ap journal_text all ∙ flat_map-append row_text given (row ∷ rest)
                ∙ ap (λ (text : List ℕ). journal_text given ++ (text ++ journal_text rest)) is
                ∙ ap (λ (text : List ℕ). journal_text given ++ text) (append_assoc part (next ∷ more) (journal_text rest))
                ∙ sym (append_assoc (journal_text given) part (next ∷ (more ++ journal_text rest))),
          ),
          appended,
        )

    -- the entries aren't whole
    pub entries_end : (fault : ShowFault) → ShowsJournal rows mid now (Err fault) → EndsDump extent rows (dump_body extent rows) start now fault
    entries_end (AtWalk (Failed fault)) (given, rest, all, appended) =
        inr (given, rest, all, Appends-trans start mid now (dump_head extent) (journal_text given) head appended)
    entries_end (AtWalk Ended) ends = ends
    entries_end (AtRow (Report report.Write)) (given, row, rest, all, part, proper, appended) =
        entries_cut given row rest all part proper appended
    entries_end (AtRow (Report report.Range)) ends = ends
    entries_end (AtRow (Report report.Memory)) ends = ends
    entries_end (AtRow Spent) ends = ends

    -- they are whole
    pub body_written : Appends mid now (journal_text rows) → Appends start now (dump_body extent rows)
    body_written appended = Appends-trans start mid now (dump_head extent) (journal_text rows) head appended

-- ---- the last line

module _ (extent : Extent) (rows : List EntryRow) (start mid now : Option (List ℕ)) (body : Appends start mid (dump_body extent rows))
    (digest : BookDigest) (is : digest ≡ digest_of extent rows) where
  pub end_written : Appends mid now (dump_end digest) → Appends start now (dump_text extent rows)
  end_written appended =
      Appends-trans start mid now (dump_body extent rows) (dump_end (digest_of extent rows)) body
      (subst (λ (it : BookDigest). Appends mid now (dump_end it)) is appended)

  pub end_stops : (fault : PrintFault) → fault ≡ print.Write → WritesLine mid now (Err fault) (dump_end digest)
      → EndsDump extent rows (dump_text extent rows) start now (AtRow (Report (report_fault fault)))
  end_stops print.Write same part =
      behind start mid now (dump_body extent rows) (dump_end (digest_of extent rows)) body
      (subst (λ (it : BookDigest). AppendsPrefix mid now (dump_end it)) is part)
  end_stops print.Memory same part = cc

-- a dump that ends before its last line
pub ends_early : (extent : Extent) (rows : List EntryRow) (start now : Option (List ℕ)) (fault : ShowFault)
    → EndsDump extent rows (dump_body extent rows) start now fault → EndsDump extent rows (dump_text extent rows) start now fault
ends_early extent rows start now (AtWalk (Failed fault)) ends = ends
ends_early extent rows start now (AtWalk Ended) ends = ends
ends_early extent rows start now (AtRow (Report report.Write)) part = longer start now (dump_body extent rows) (dump_end (digest_of extent rows)) part
ends_early extent rows start now (AtRow (Report report.Range)) ends = ends
ends_early extent rows start now (AtRow (Report report.Memory)) ends = ends
ends_early extent rows start now (AtRow Spent) ends = ends

-- ---- the digest

-- what the hasher holds at last is the text before the last line
pub digest_is : (extent : Extent) (rows : List EntryRow) (Headed Whole : List ℕ → Type 0) (made : List ℕ)
    → Headed (dump_head extent) → HearsMore Headed Whole (journal_text rows)
    → ((message : List ℕ) → Whole message → made ≡ sha256 message)
    → ◌≡◌ {A = BookDigest} (record { entries = extent.entries; sha256 = made }) (digest_of extent rows)
digest_is extent rows Headed Whole made headed heard finished =
    ap (λ (digest : List ℕ). record { entries = extent.entries; sha256 = digest })
    (finished (dump_body extent rows) (heard (dump_head extent) headed))

-- ---- how far the book goes

module _ {S : Type 0} (g : Ghosts S) (old new : Book S g) where
  -- it was asked without a fault
  pub was_measured : (extent : Extent) → Measures (state g old.conn) (state g new.conn) (Ok extent) → new.condition ≡ old.condition → IsRead g old new
  was_measured extent measures condition = record { condition = condition; same = measures.same; crash = measures.crash }

  -- the book stops it
  pub not_measured : {A : Type 0} (fault : StoreFault) → Measures (state g old.conn) (state g new.conn) (Err fault)
      → (◌≡◌ {A = Result Extent StoreFault} (Err fault) (Err NeedsReopen) ↔ (old.condition ≡ Unusable))
      → new.condition ≡ condition_from {A = Extent} old.condition (Err fault)
      → fault ≢ InDoubt
      → (HasCleanDisk (state g new.conn) → LeavesTables (state g old.conn) (state g new.conn))
      → ReadsBook {A = A} g old new (Err (AtWalk (Failed fault)))
  not_measured {A} fault measures reopen condition sure left = record {
    reopen = (λ is. let at : fault ≡ NeedsReopen = cc in reopen.0 (ap Err at), λ spent. let at : fault ≡ NeedsReopen = of (reopen.1 spent) in ap (λ (f : StoreFault). Err (AtWalk (Failed f))) at);
    condition = after fault condition;
    failed = λ clean is. let at : fault ≡ Device = cc in measures.failed clean (ap Err at);
    damaged = λ clean is. let at : fault ≡ Damaged = cc in measures.damaged clean (ap Err at);
    sure = λ is. let at : fault ≡ InDoubt = cc in sure at;
    going = λ is. cc;
    unspent = λ is. cc;
    same = λ clean. tt;
    left = left;
    crash = measures.crash;
  }
    where
      of : ◌≡◌ {A = Result Extent StoreFault} (Err fault) (Err NeedsReopen) → fault ≡ NeedsReopen
      of is = cc

      after : (fault : StoreFault) → new.condition ≡ condition_from {A = Extent} old.condition (Err fault)
          → new.condition ≡ condition_from {A = Unit {0}} old.condition (Err fault)
      after Device is = is
      after InDoubt is = is
      after NeedsReopen is = is
      after Damaged is = is
      after Memory is = is

-- ---- all but the last line

-- it is whole
pub body_whole : (extent : Extent) (rows : List EntryRow) (start mid now : Option (List ℕ)) (Headed Whole : List ℕ → Type 0) (made : List ℕ)
    → Appends start mid (dump_head extent) → Headed (dump_head extent)
    → ShowsHeard (HearsMore Headed Whole) rows mid now (Ok tt) → ((message : List ℕ) → Whole message → made ≡ sha256 message)
    → ShowsBody extent rows start now (Ok (record { entries = extent.entries; sha256 = made }))
body_whole extent rows start mid now Headed Whole made head headed (appended, heard) finished = (
  body_written extent rows start mid now head appended,
  digest_is extent rows Headed Whole made headed heard finished,
)

pub rows_whole : (extent : Extent) (tables : Tables) (start mid now : Option (List ℕ)) (Headed Whole : List ℕ → Type 0) (made : List ℕ)
    → IsExtent extent tables → Appends start mid (dump_head extent) → Headed (dump_head extent)
    → ShowsAllHeard (HearsMore Headed Whole) tables mid now (Ok tt) → ((message : List ℕ) → Whole message → made ≡ sha256 message)
    → ShowsBodyOfTables tables start now (Ok (record { entries = extent.entries; sha256 = made }))
rows_whole extent tables start mid now Headed Whole made is head headed heard finished =
    let body = body_whole extent tables.entry start mid now Headed Whole made head headed heard finished in
    (extent, is, body.0, body.1)

-- ---- the book

-- a fault of the printer leaves the book as it was read
pub print_reads : {S A : Type 0} (g : Ghosts S) (old new : Book S g) (fault : PrintFault) → IsRead g old new → old.condition ≢ Unusable
    → ReadsBook {A = A} g old new (Err (AtRow (Report (report_fault fault))))
print_reads g old new fault read usable = reads_cut g old new (Report (report_fault fault)) (λ is. cc) read usable

-- the same fault, of a call that gives something else
pub same_stop : {S A B : Type 0} (g : Ghosts S) (old new : Book S g) (fault : ShowFault) → ReadsBook {A = A} g old new (Err fault)
    → ReadsBook {A = B} g old new (Err fault)
same_stop {S} {A} {B} g old new fault reads = record {
  reopen = (
    λ is. let at : fault ≡ AtWalk (Failed NeedsReopen) = cc in reads.reopen.0 (ap Err at),
    λ spent. ap Err (stop_of A fault (AtWalk (Failed NeedsReopen)) (reads.reopen.1 spent)),
  );
  condition = after A B fault reads.condition;
  failed = λ clean is. let at : fault ≡ AtWalk (Failed Device) = cc in reads.failed clean (ap Err at);
  damaged = λ clean is. let at : fault ≡ AtWalk (Failed Damaged) = cc in reads.damaged clean (ap Err at);
  sure = λ is. let at : fault ≡ AtWalk (Failed InDoubt) = cc in reads.sure (ap Err at);
  going = λ is. let at : fault ≡ AtWalk Ended = cc in reads.going (ap Err at);
  unspent = λ is. let at : fault ≡ AtRow Spent = cc in reads.unspent (ap Err at);
  same = λ clean. unless A B (Stays (state g old.conn) (state g new.conn)) fault (reads.same clean);
  left = reads.left;
  crash = reads.crash;
}
  where
    stop_of : (A : Type 0) (fault other : ShowFault) → ◌≡◌ {A = Result A ShowFault} (Err fault) (Err other) → fault ≡ other
    stop_of A fault other is = cc

    after : (A B : Type 0) (fault : ShowFault) → new.condition ≡ condition_after {A = A} old.condition (Err fault)
        → new.condition ≡ condition_after {A = B} old.condition (Err fault)
    after A B (AtWalk fault) is = is
    after A B (AtRow fault) is = is

    unless : (A B P : Type 0) (fault : ShowFault) → UnlessStopped {A = A} (Err fault) P → UnlessStopped {A = B} (Err fault) P
    unless A B P (AtWalk fault) is = tt
    unless A B P (AtRow fault) is = is
