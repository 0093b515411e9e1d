use Rattle.std.proofs.Common.{◌∙◌, [], ap, Err, Ok, None, Some, arith, refl, rules, subst, sym}
use Rattle.std.proofs.KnownBytes.{Appends-nil}
use Rattle.std.proofs.lemmas.List.{append-nil}
use Rattle.std.proofs.lemmas.Result.{err_from_is_err_and}
use Rattle.lot_stored.specs.Rows.{entry_rows}
use Rattle.lot_report.specs.Journal.{is_spent}
use Rattle.lot_book_report.proofs.CauseLemmas.{of_entry, of_walk}
use Rattle.lot_book_report.proofs.GivenLemmas.{begins, begins_at_fault, gave_all, gave_all_rows, gave_more}
use Rattle.lot_book_report.proofs.JournalLemmas.{cut, grown, journal_cut, some_cut, some_stopped, some_whole, stopped, whole}
use Rattle.lot_book_report.proofs.ReadLemmas.{handed, handed_holds, handed_tables, is_failure, is_false, never_both, reads_from, reads_short, reads_whole, stops, usable, walked_out, walks_on}
use Rattle.lot_walk.specs.Journal.{AreEntries, HasCanonicalText, IsBehindEntries, said}
use Rattle.lot_store.specs.declared.fault.StoreFault.TheVariants.{Memory}
use Rattle.lot_store.specs.declared.walk.WalkFault.TheVariants.{Failed}
use Rattle.lot_book_report.proofs.journal.write_entries.Goals as goal

pub entries-init : goal.entries-init
entries-init g c = record {
  same_book = refl;
  reading = reads_from g.S.Store c.args.book.now c.journal-walk.result c.journal-walk.ensures.going c.journal-walk.ensures.same;
  usable = λ below. absurd (omega arith);
  none_failed = refl;
  fresh = c.new-journal.ensures;
  written = record {
    printed = [];
    gave = record { of_book = λ clean. c.journal-walk.ensures.begun; of_rows = λ clean. c.journal-walk.ensures.rows };
    written = Appends-nil (g.W.CountedWrite.contents c.args.writer.now);
    heard = λ message was. subst (g.H.Hear.has_heard c.args.heard.now) (sym (append-nil message)) was;
  };
}

pub returns-in_err-entry-clause-reads : goal.returns-in_err-entry-clause-reads
returns-in_err-entry-clause-reads g c =
    let fault = err_from_is_err_and c.from_residual.result c.from_residual.ensures.1 in
    let loop = c.entries.invariant in
    rw (fault.1, fault.2)
    (handed g.S.Store c.args.book.now c.next.new.self.book.now _ (Err _) (search rules)
    (stops g.S.Store said HasCanonicalText AreEntries IsBehindEntries c.args.book.now c.entries.walk c.next.new.self loop.reading c.in_err-entry.field-0.0
    (λ clean entries stands. (tt, _, loop.written.gave.of_book clean entries stands))
    c.in_err-entry.ensures.walks))

pub returns-in_err-entry-clause-shows : goal.returns-in_err-entry-clause-shows
returns-in_err-entry-clause-shows g c =
    let fault = err_from_is_err_and c.from_residual.result c.from_residual.ensures.1 in
    let loop = c.entries.invariant in
    let before = c.entries.walk in
    let after = c.next.new.self in
    let walks = c.in_err-entry.ensures.walks in
    let failure = is_failure g.S.Store said HasCanonicalText AreEntries IsBehindEntries c.args.book.now before after loop.reading c.in_err-entry.field-0.0 walks in
    rw (fault.1, fault.2, failure.1)
    (handed_holds g.S.Store c.args.book.now after.book.now _ _ (search rules) (record {
      holds = λ clean entries stands.
          stopped _ before _ loop.written failure.0 entries (begins_at_fault loop.written.gave c.in_err-entry.field-0.0 walks clean entries stands);
    }))

pub returns-in_err-entry-clause-lines : goal.returns-in_err-entry-clause-lines
returns-in_err-entry-clause-lines g c =
    let fault = err_from_is_err_and c.from_residual.result c.from_residual.ensures.1 in
    let loop = c.entries.invariant in
    let failure = is_failure g.S.Store said HasCanonicalText AreEntries IsBehindEntries c.args.book.now c.entries.walk c.next.new.self loop.reading c.in_err-entry.field-0.0 c.in_err-entry.ensures.walks in
    rw (fault.1, fault.2, failure.1) (some_stopped _ c.entries.walk _ loop.written failure.0)

pub returns-in_err-entry-clause-rows : goal.returns-in_err-entry-clause-rows
returns-in_err-entry-clause-rows g c =
    let fault = err_from_is_err_and c.from_residual.result c.from_residual.ensures.1 in rw fault.1 (record { holds = λ clean tables has. tt })

pub returns-in_default-clause-shows : goal.returns-in_default-clause-shows
returns-in_default-clause-shows g c =
    let loop = c.entries.invariant in
    let after = c.next.new.self in
    let walks = rw c.in_default.is at c.in_ok-entry.ensures.walks in
    rw c.in_ok-end.ensures.text
    (handed_holds g.S.Store c.args.book.now after.book.now _ _ (search rules) (record {
      holds = λ clean entries stands. whole _ c.entries.walk _ loop.written (entry_rows 1 entries) (gave_all loop.written.gave walks clean entries stands);
    }))

pub returns-in_default-clause-lines : goal.returns-in_default-clause-lines
returns-in_default-clause-lines g c = rw c.in_ok-end.ensures.text (some_whole _ c.entries.walk _ c.entries.invariant.written)

pub returns-in_default-clause-rows : goal.returns-in_default-clause-rows
returns-in_default-clause-rows g c =
    let loop = c.entries.invariant in
    let after = c.next.new.self in
    let walks = rw c.in_default.is at c.in_ok-entry.ensures.walks in
    let rows = rw c.in_default.is at c.in_ok-entry.ensures.rows in
    rw c.in_ok-end.ensures.text
    (handed_tables g.S.Store c.args.book.now after.book.now _ _ (search rules) (record {
      holds = λ clean tables has. whole _ c.entries.walk _ loop.written tables.entry (gave_all_rows loop.written.gave walks rows clean tables has);
    }))

pub returns-in_default-clause-reads : goal.returns-in_default-clause-reads
returns-in_default-clause-reads g c =
    let loop = c.entries.invariant in
    let before = c.entries.walk in
    let after = c.next.new.self in
    let walks = rw c.in_default.is at c.in_ok-entry.ensures.walks in
    handed g.S.Store c.args.book.now after.book.now _ (Ok tt) (search rules)
    (reads_whole g.S.Store c.args.book.now after.book.now tt
    (walked_out g.S.Store said HasCanonicalText AreEntries IsBehindEntries c.args.book.now before after loop.reading walks)
    (usable g.S.Store said HasCanonicalText AreEntries IsBehindEntries c.args.book.now before after loop.reading None walks))

pub returns-in_err-row-clause-shows : goal.returns-in_err-row-clause-shows
returns-in_err-row-clause-shows g c =
    let fault = err_from_is_err_and c.from_residual-in_err-row.result c.from_residual-in_err-row.ensures.1 in
    let loop = c.entries.invariant in
    let has = loop.written in
    let after = c.next.new.self in
    let walks = rw c.in-Some.is at c.in_ok-entry.ensures.walks in
    let rows = rw c.in-Some.is at c.in_ok-entry.ensures.rows in
    let spent = c.in_err-row.ensures.spent in
    rw (fault.1, fault.2)
    (handed_holds g.S.Store c.args.book.now after.book.now _ _ (search rules) (record {
      holds = λ clean entries stands.
          cut _ c.entries.walk _ has c.in-Some.entry _ c.in_err-row.field-0.0
          (λ is. never_both (is_spent c.entries.journal) loop.fresh (spent.0 (ap Err is)))
          (c.in_err-row.ensures.text has.printed _ has.written) entries (begins (gave_more has.gave c.in-Some.entry walks rows) clean entries stands);
    }))

pub returns-in_err-row-clause-lines : goal.returns-in_err-row-clause-lines
returns-in_err-row-clause-lines g c =
    let fault = err_from_is_err_and c.from_residual-in_err-row.result c.from_residual-in_err-row.ensures.1 in
    let loop = c.entries.invariant in
    let has = loop.written in
    let spent = c.in_err-row.ensures.spent in
    rw (fault.1, fault.2)
    (some_cut _ c.entries.walk _ has c.in-Some.entry _ c.in_err-row.field-0.0
    (λ is. never_both (is_spent c.entries.journal) loop.fresh (spent.0 (ap Err is)))
    (c.in_err-row.ensures.text has.printed _ has.written))

pub returns-in_err-row-clause-rows : goal.returns-in_err-row-clause-rows
returns-in_err-row-clause-rows g c =
    let fault = err_from_is_err_and c.from_residual-in_err-row.result c.from_residual-in_err-row.ensures.1 in rw fault.1 (record { holds = λ clean tables has. tt })

pub returns-in_err-row-clause-reads : goal.returns-in_err-row-clause-reads
returns-in_err-row-clause-reads g c =
    let fault = err_from_is_err_and c.from_residual-in_err-row.result c.from_residual-in_err-row.ensures.1 in
    let loop = c.entries.invariant in
    let before = c.entries.walk in
    let after = c.next.new.self in
    let walks = rw c.in-Some.is at c.in_ok-entry.ensures.walks in
    let on = walks_on g.S.Store said HasCanonicalText AreEntries IsBehindEntries c.args.book.now before after loop.reading c.in-Some.entry walks in
    let spent = c.in_err-row.ensures.spent in
    rw (fault.1, fault.2)
    (handed g.S.Store c.args.book.now after.book.now _ (Err _) (search rules)
    (journal_cut g.S.Store c.args.book.now after.book.now c.in_err-row.field-0.0
    (λ is. never_both (is_spent c.entries.journal) loop.fresh (spent.0 (ap Err is))) on.read
    (usable g.S.Store said HasCanonicalText AreEntries IsBehindEntries c.args.book.now before after loop.reading (Some c.in-Some.entry) walks)))

pub entries-preserved : goal.entries-preserved
entries-preserved g c =
    let loop = c.entries.invariant in
    let has = loop.written in
    let before = c.entries.walk in
    let after = c.next.new.self in
    let walks = rw c.in-Some.is at c.in_ok-entry.ensures.walks in
    let rows = rw c.in-Some.is at c.in_ok-entry.ensures.rows in
    record {
      same_book = c.in_ok-entry.ensures.same_reference ∙ loop.same_book;
      reading = walks_on g.S.Store said HasCanonicalText AreEntries IsBehindEntries c.args.book.now before after loop.reading c.in-Some.entry walks;
      usable = λ below. usable g.S.Store said HasCanonicalText AreEntries IsBehindEntries c.args.book.now before after loop.reading (Some c.in-Some.entry) walks;
      none_failed = c.in_ok-row.ensures.none_failed ∙ loop.none_failed;
      fresh = is_false (is_spent c.row.new.self) c.in_ok-row.ensures.after.1;
      written = grown _ before _ has c.in-Some.entry _ (g.H.Hear.has_heard c.hear.new.self) after (gave_more has.gave c.in-Some.entry walks rows)
          (c.in_ok-row.ensures.text has.printed _ has.written) c.hear.ensures;
    }

pub returns-clause-shows : goal.returns-clause-shows
returns-clause-shows g c =
    let loop = c.entries.invariant in
    rw c.from.ensures
    (handed_holds g.S.Store c.args.book.now c.entries.walk.book.now _ _ (search rules) (record {
      holds = λ clean entries stands. stopped _ c.entries.walk _ loop.written Memory entries (begins loop.written.gave clean entries stands);
    }))

pub returns-clause-lines : goal.returns-clause-lines
returns-clause-lines g c = rw c.from.ensures (some_stopped _ c.entries.walk _ c.entries.invariant.written Memory)

pub returns-clause-reads : goal.returns-clause-reads
returns-clause-reads g c =
    let loop = c.entries.invariant in
    rw c.from.ensures
    (handed g.S.Store c.args.book.now c.entries.walk.book.now _ (Err _) (search rules)
    (reads_short g.S.Store c.args.book.now c.entries.walk.book.now loop.reading.read (loop.usable (omega arith))))

pub returns-in_err-entry-clause-cause : goal.returns-in_err-entry-clause-cause
returns-in_err-entry-clause-cause g c = of_walk c.from_residual.result c.in_err-entry.field-0.0 (record { before = g.W.CountedWrite.calls c.args.writer.now; after = g.W.CountedWrite.calls c.entries.writer }) c.from_residual.ensures.1 c.entries.invariant.none_failed

pub returns-in_err-row-clause-cause : goal.returns-in_err-row-clause-cause
returns-in_err-row-clause-cause g c =
    of_entry c.from_residual-in_err-row.result c.in_err-row.field-0.0 (record { before = g.W.CountedWrite.calls c.args.writer.now; after = g.W.CountedWrite.calls c.row.new.writer }) c.from_residual-in_err-row.ensures.1 (λ is. c.in_err-row.ensures.cause (ap Err is))

pub returns-clause-cause : goal.returns-clause-cause
returns-clause-cause g c = of_walk (Err c.from.result) (Failed Memory) (record { before = g.W.CountedWrite.calls c.args.writer.now; after = g.W.CountedWrite.calls c.entries.writer }) c.from.ensures c.entries.invariant.none_failed

pub returns-in_default-clause-cause : goal.returns-in_default-clause-cause
returns-in_default-clause-cause g c = rw c.in_ok-end.ensures.text c.entries.invariant.none_failed
