-- The table is written once all rows are taken.
use Rattle.std.proofs.Common.{Err, Ok, ap, map, refl}
use Rattle.std.proofs.lemmas.Result.{err_from_is_err_and}
use Rattle.lot_book_report.proofs.CauseLemmas.{of_row}
use Rattle.lot_book_report.proofs.ReadLemmas.{reads_cut, was_read}
use Rattle.lot_report.proofs.OutputLemmas.{writer_of_line}
use Rattle.lot_report.specs.Report.{report_fault}
use Rattle.lot_report.specs.declared.fault.RowFault.TheVariants.{Report}
use Rattle.lot_sums.proofs.ShowLemmas.{all_shown, not_of_writer, nothing_shown, some_shown}
use Rattle.lot_sums.proofs.show.show_table.Goals as goal

pub returns-in_err-gather-clause-shows : goal.returns-in_err-gather-clause-shows
returns-in_err-gather-clause-shows g c =
    let fault = err_from_is_err_and c.from_residual.result c.from_residual.ensures.1 in
    rw (fault.1, fault.2) (λ terms fresh tell same clean asked entries has.
    let (all, are, gathers) = c.in_err-gather.ensures.gathers terms fresh tell same clean asked entries has in
    (all, are, nothing_shown (g.T.Tally.fits terms) (g.T.Tally.HasTaken terms) (g.T.Tally.AreLines terms) (map tell all) _ c.gather.new.tally c.in_err-gather.field-0.0 gathers))

pub returns-in_err-gather-clause-keeps : goal.returns-in_err-gather-clause-keeps
returns-in_err-gather-clause-keeps g c =
    let fault = err_from_is_err_and c.from_residual.result c.from_residual.ensures.1 in
    rw fault.1 (λ terms fresh tell same clean asked entries has. tt)

pub returns-in_err-gather-clause-some : goal.returns-in_err-gather-clause-some
returns-in_err-gather-clause-some g c =
    let fault = err_from_is_err_and c.from_residual.result c.from_residual.ensures.1 in
    rw (fault.1, fault.2) (λ terms fresh.
    let (rows, gathers) = c.in_err-gather.ensures.some terms fresh in
    (rows, nothing_shown (g.T.Tally.fits terms) (g.T.Tally.HasTaken terms) (g.T.Tally.AreLines terms) rows _ c.gather.new.tally c.in_err-gather.field-0.0 gathers))

pub returns-in_err-gather-clause-rows : goal.returns-in_err-gather-clause-rows
returns-in_err-gather-clause-rows g c =
    let fault = err_from_is_err_and c.from_residual.result c.from_residual.ensures.1 in
    rw fault.1 (λ terms fresh tell same clean asked tables has. tt)

pub returns-in_err-gather-clause-reads : goal.returns-in_err-gather-clause-reads
returns-in_err-gather-clause-reads g c =
    let fault = err_from_is_err_and c.from_residual.result c.from_residual.ensures.1 in
    rw (fault.1, fault.2) c.in_err-gather.ensures.reads

pub returns-in_err-gather-clause-cause : goal.returns-in_err-gather-clause-cause
returns-in_err-gather-clause-cause g c =
    let fault = err_from_is_err_and c.from_residual.result c.from_residual.ensures.1 in
    let (terms, fresh) = c.requires.fresh in
    let (rows, gathers) = c.in_err-gather.ensures.some terms fresh in
    rw (fault.1, fault.2)
    (not_of_writer (g.T.Tally.fits terms) (g.T.Tally.HasTaken terms) (g.T.Tally.AreLines terms) rows (g.W.CountedWrite.contents c.args.writer.now) c.gather.new.tally c.in_err-gather.field-0.0
    (record { before = g.W.CountedWrite.calls c.args.writer.now; after = g.W.CountedWrite.calls c.args.writer.now }) gathers refl)

pub returns-in_err-print-clause-shows : goal.returns-in_err-print-clause-shows
returns-in_err-print-clause-shows g c =
    let fault = err_from_is_err_and c.from_residual-in_err-print.result c.from_residual-in_err-print.ensures.1 in
    rw (fault.1, fault.2) (λ terms fresh tell same clean asked entries has.
    let (all, are, (fit, taken)) = c.in_ok-gather.ensures.gathers terms fresh tell same clean asked entries has in (
      all,
      are,
      some_shown (g.T.Tally.fits terms) (g.T.Tally.HasTaken terms) (g.T.Tally.AreLines terms) (map tell all) _ _ fit c.in_err-print.field-0.0
          (c.in_err-print.ensures.lines terms (map tell all) taken),
    ))

pub returns-in_err-print-clause-keeps : goal.returns-in_err-print-clause-keeps
returns-in_err-print-clause-keeps g c =
    let fault = err_from_is_err_and c.from_residual-in_err-print.result c.from_residual-in_err-print.ensures.1 in
    rw fault.1 (λ terms fresh tell same clean asked entries has. tt)

pub returns-in_err-print-clause-some : goal.returns-in_err-print-clause-some
returns-in_err-print-clause-some g c =
    let fault = err_from_is_err_and c.from_residual-in_err-print.result c.from_residual-in_err-print.ensures.1 in
    rw (fault.1, fault.2) (λ terms fresh.
    let (rows, (fit, taken)) = c.in_ok-gather.ensures.some terms fresh in (
      rows,
      some_shown (g.T.Tally.fits terms) (g.T.Tally.HasTaken terms) (g.T.Tally.AreLines terms) rows _ _ fit c.in_err-print.field-0.0
          (c.in_err-print.ensures.lines terms rows taken),
    ))

pub returns-in_err-print-clause-rows : goal.returns-in_err-print-clause-rows
returns-in_err-print-clause-rows g c =
    let fault = err_from_is_err_and c.from_residual-in_err-print.result c.from_residual-in_err-print.ensures.1 in
    rw fault.1 (λ terms fresh tell same clean asked tables has. tt)

pub returns-in_err-print-clause-reads : goal.returns-in_err-print-clause-reads
returns-in_err-print-clause-reads g c =
    let fault = err_from_is_err_and c.from_residual-in_err-print.result c.from_residual-in_err-print.ensures.1 in
    let reads = c.in_ok-gather.ensures.reads in
    rw (fault.1, fault.2)
    (reads_cut g.S.Store c.args.walk.now.book.now c.gather.new.walk.book.now (Report (report_fault c.in_err-print.field-0.0)) (λ is. cc)
    (was_read g.S.Store c.args.walk.now.book.now c.gather.new.walk.book.now _ reads) (λ spent. let is = reads.reopen.1 spent in cc))

pub returns-in_err-print-clause-cause : goal.returns-in_err-print-clause-cause
returns-in_err-print-clause-cause g c =
    of_row c.from_residual-in_err-print.result (Report (report_fault c.in_err-print.field-0.0)) (record { before = g.W.CountedWrite.calls c.args.writer.now; after = g.W.CountedWrite.calls c.print.new.writer }) c.from_residual-in_err-print.ensures.1
    (λ is. c.in_err-print.ensures.cause (ap Err (writer_of_line c.in_err-print.field-0.0 (cc))))

pub returns-clause-shows : goal.returns-clause-shows
returns-clause-shows g c = λ terms fresh tell same clean asked entries has.
    let (all, are, (fit, taken)) = c.in_ok-gather.ensures.gathers terms fresh tell same clean asked entries has in (
      all,
      are,
      all_shown (g.T.Tally.fits terms) (g.T.Tally.HasTaken terms) (g.T.Tally.AreLines terms) (map tell all) _ _ fit _
          (c.in_ok-print.ensures.lines terms (map tell all) taken),
    )

pub returns-clause-keeps : goal.returns-clause-keeps
returns-clause-keeps g c = λ terms fresh tell same clean asked entries has.
    let (all, are, (fit, taken)) = c.in_ok-gather.ensures.gathers terms fresh tell same clean asked entries has in (all, are, taken)

pub returns-clause-some : goal.returns-clause-some
returns-clause-some g c = λ terms fresh.
    let (rows, (fit, taken)) = c.in_ok-gather.ensures.some terms fresh in (
      rows,
      all_shown (g.T.Tally.fits terms) (g.T.Tally.HasTaken terms) (g.T.Tally.AreLines terms) rows _ _ fit _
          (c.in_ok-print.ensures.lines terms rows taken),
    )

pub returns-clause-rows : goal.returns-clause-rows
returns-clause-rows g c = λ terms fresh tell same clean asked tables has.
    let (all, are, good, (fit, taken)) = c.in_ok-gather.ensures.rows terms fresh tell same clean asked tables has in (
      all,
      are,
      good,
      all_shown (g.T.Tally.fits terms) (g.T.Tally.HasTaken terms) (g.T.Tally.AreLines terms) (map tell all) _ _ fit _
          (c.in_ok-print.ensures.lines terms (map tell all) taken),
    )
