-- The header is written, then the records of the rows, one after another.
use Rattle.std.proofs.Common.{◌≡◌, ◌∙◌, Err, ap, rules, sym, subst}
use Rattle.std.proofs.lemmas.List.{append-nil, nil_from_length}
use Rattle.std.proofs.lemmas.Result.{err_from_is_err_and}
use Rattle.std.specs.Io.KnownBytes.{Appends}
use Rattle.lot_csv.specs.Holdings.{holdings_header}
use Rattle.lot_report.proofs.OutputLemmas.{writer_of_line}
use Rattle.lot_report.specs.Report.{report_fault}
use Rattle.lot_report.specs.Written.{WritesLine}
use Rattle.lot_report.specs.declared.fault.RowFault.TheVariants.{Report}
use Rattle.lot_book_report.proofs.CauseLemmas.{of_row}
use Rattle.lot_book_report.proofs.ListedLemmas.{header_cut, header_written, record_cut, record_more, records_whole}
use Rattle.lot_book_report.specs.Csv.{columns_for}
use Rattle.lot_book_report.specs.Holdings.{valued_with}
use Rattle.lot_book_report.proofs.csv.holdings.write_listed_csv.Goals as goal

pub returns-in_err-print_texts-clause-shows : goal.returns-in_err-print_texts-clause-shows
returns-in_err-print_texts-clause-shows g c =
    let fault = err_from_is_err_and c.from_residual.result c.from_residual.ensures.1 in
    let header = append-nil c.holdings_header.result.now ∙ c.holdings_header.ensures ∙ ap holdings_header c.columns.ensures in
    rw (fault.1, fault.2)
    (header_cut (columns_for c.args.prices.now) (valued_with c.args.prices.now) c.args.rows.items (g.W.CountedWrite.contents c.args.writer.now) _ c.in_err-print_texts.field-0.0 c.in_err-print_texts.ensures.fault
    (subst (WritesLine (g.W.CountedWrite.contents c.args.writer.now) (g.W.CountedWrite.contents c.print_texts.new.writer) (Err c.in_err-print_texts.field-0.0)) header c.in_err-print_texts.ensures.bytes))

pub returns-in_err-print_texts-clause-fault : goal.returns-in_err-print_texts-clause-fault
returns-in_err-print_texts-clause-fault g c =
    let fault = err_from_is_err_and c.from_residual.result c.from_residual.ensures.1 in rw (fault.1, fault.2) tt

pub returns-in_err-print_texts-clause-cause : goal.returns-in_err-print_texts-clause-cause
returns-in_err-print_texts-clause-cause g c =
    of_row c.from_residual.result (Report (report_fault c.in_err-print_texts.field-0.0)) (record { before = g.W.CountedWrite.calls c.args.writer.now; after = g.W.CountedWrite.calls c.print_texts.new.writer }) c.from_residual.ensures.1
    (λ is. c.in_err-print_texts.ensures.cause)

pub loop-holding-init : goal.loop-holding-init
loop-holding-init g c =
    let gives : c.into_iter-holding-iterator.result.rest.items ≡ c.args.rows.items = search rules in
    let header = append-nil c.holdings_header.result.now ∙ c.holdings_header.ensures ∙ ap holdings_header c.columns.ensures in
    record {
      recorded = header_written (columns_for c.args.prices.now) (valued_with c.args.prices.now) c.args.rows.items (g.W.CountedWrite.contents c.args.writer.now) _ _ gives
          (subst (Appends (g.W.CountedWrite.contents c.args.writer.now) (g.W.CountedWrite.contents c.print_texts.new.writer)) header c.in_ok-print_texts.ensures.bytes);
      none_failed = c.in_ok-print_texts.ensures.none_failed;
    }

pub loop-holding-preserved : goal.loop-holding-preserved
loop-holding-preserved g c =
    let loop = c.loop-holding.invariant in
    record {
      recorded = record_more (columns_for c.args.prices.now) (valued_with c.args.prices.now) c.args.rows.items (g.W.CountedWrite.contents c.args.writer.now) _ _ loop.recorded _ c.in-Some.holding _ c.in-Some.ensures.steps.0 c.in_ok-write.ensures.records;
      none_failed = c.in_ok-write.ensures.none_failed ∙ loop.none_failed;
    }

pub returns-in_err-write-clause-shows : goal.returns-in_err-write-clause-shows
returns-in_err-write-clause-shows g c =
    let fault = err_from_is_err_and c.from_residual-in_err-write.result c.from_residual-in_err-write.ensures.1 in
    rw (fault.1, fault.2)
    (record_cut (columns_for c.args.prices.now) (valued_with c.args.prices.now) c.args.rows.items (g.W.CountedWrite.contents c.args.writer.now) _ _ c.loop-holding.invariant.recorded _ c.in-Some.holding _ c.in_err-write.field-0.0
    c.in-Some.ensures.steps.0 c.in_err-write.ensures.records)

pub returns-in_err-write-clause-fault : goal.returns-in_err-write-clause-fault
returns-in_err-write-clause-fault g c =
    let fault = err_from_is_err_and c.from_residual-in_err-write.result c.from_residual-in_err-write.ensures.1 in rw (fault.1, fault.2) tt

pub returns-in_err-write-clause-cause : goal.returns-in_err-write-clause-cause
returns-in_err-write-clause-cause g c =
    of_row c.from_residual-in_err-write.result (Report (report_fault c.in_err-write.field-0.0)) (record { before = g.W.CountedWrite.calls c.args.writer.now; after = g.W.CountedWrite.calls c.write.new.writer }) c.from_residual-in_err-write.ensures.1
    (λ is. c.in_err-write.ensures.cause (ap Err (writer_of_line c.in_err-write.field-0.0 (cc))))

pub returns-clause-shows : goal.returns-clause-shows
returns-clause-shows g c =
    records_whole (columns_for c.args.prices.now) (valued_with c.args.prices.now) c.args.rows.items (g.W.CountedWrite.contents c.args.writer.now) _ _ c.loop-holding.invariant.recorded
    (nil_from_length _ (sym c.loop-holding.holding-iterator.rest.ok.0 ∙ c.in-None.ensures.steps.0))

pub returns-clause-cause : goal.returns-clause-cause
returns-clause-cause g c = c.loop-holding.invariant.none_failed
