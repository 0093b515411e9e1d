-- The rows are written one after another, then the totals.
use Rattle.std.proofs.Common.{◌≡◌, ◌∙◌, [], Err, ap, map, refl, rules, sym}
use Rattle.std.proofs.lemmas.List.{nil_from_length}
use Rattle.std.proofs.lemmas.Result.{err_from_is_err_and}
use Rattle.lot_report.specs.Holdings.{HasTaken, IsEnd, fits, is_spent, row_lines}
use Rattle.lot_book_report.proofs.CauseLemmas.{of_row}
use Rattle.lot_book_report.proofs.FeedLemmas.{fed_none}
use Rattle.lot_book_report.proofs.ListedLemmas.{listed_cut, listed_cut_at_end, listed_more, listed_whole}
use Rattle.lot_book_report.proofs.ReadLemmas.{is_false, never_both}
use Rattle.lot_book_report.specs.Holdings.{valued_with}
use Rattle.lot_book_report.proofs.holdings.write_listed.Goals as goal

pub loop-holding-init : goal.loop-holding-init
loop-holding-init g c =
    let gives : c.into_iter-holding-iterator.result.rest.items ≡ c.args.rows.items = search rules in
    record {
      listed = record {
        given = [];
        all = gives;
        fresh = c.new-report.ensures.spent;
        has = fed_none (valued_with c.args.prices.now) row_lines fits HasTaken IsEnd (g.W.CountedWrite.contents c.args.writer.now) c.new-report.result.progress c.new-report.ensures.fed;
      };
      none_failed = refl;
    }

pub loop-holding-preserved : goal.loop-holding-preserved
loop-holding-preserved g c =
    let loop = c.loop-holding.invariant in
    let listed = loop.listed in
    record {
      listed = listed_more (valued_with c.args.prices.now) c.args.rows.items (g.W.CountedWrite.contents c.args.writer.now) _ c.loop-holding.report _ listed _ c.in-Some.holding c.valued-row.result c.row.new.self _ tt
          c.in-Some.ensures.steps.0 c.valued-row.ensures (is_false (is_spent c.row.new.self) c.in_ok-row.ensures.after.1)
          (c.in_ok-row.ensures.text (map (valued_with c.args.prices.now) listed.given) _ listed.has.fed listed.has.written);
      none_failed = c.in_ok-row.ensures.none_failed ∙ loop.none_failed;
    }

pub returns-in_err-row-clause-shows : goal.returns-in_err-row-clause-shows
returns-in_err-row-clause-shows g c =
    let fault = err_from_is_err_and c.from_residual.result c.from_residual.ensures.1 in
    let listed = c.loop-holding.invariant.listed in
    rw (fault.1, fault.2)
    (listed_cut (valued_with c.args.prices.now) c.args.rows.items (g.W.CountedWrite.contents c.args.writer.now) _ c.loop-holding.report _ listed _ c.in-Some.holding c.valued-row.result c.row.new.self _ c.in_err-row.field-0.0
    c.in-Some.ensures.steps.0 c.valued-row.ensures (λ is. never_both (is_spent c.loop-holding.report) listed.fresh (c.in_err-row.ensures.spent.0 (ap Err is)))
    (c.in_err-row.ensures.text (map (valued_with c.args.prices.now) listed.given) _ listed.has.fed listed.has.written))

pub returns-in_err-row-clause-fault : goal.returns-in_err-row-clause-fault
returns-in_err-row-clause-fault g c =
    let fault = err_from_is_err_and c.from_residual.result c.from_residual.ensures.1 in rw (fault.1, fault.2) tt

pub returns-in_err-row-clause-cause : goal.returns-in_err-row-clause-cause
returns-in_err-row-clause-cause g c =
    of_row c.from_residual.result c.in_err-row.field-0.0 (record { before = g.W.CountedWrite.calls c.args.writer.now; after = g.W.CountedWrite.calls c.row.new.writer }) c.from_residual.ensures.1 (λ is. c.in_err-row.ensures.cause (ap Err is))

pub returns-in_err-end-clause-shows : goal.returns-in_err-end-clause-shows
returns-in_err-end-clause-shows g c =
    let fault = err_from_is_err_and c.from_residual-in_err-end.result c.from_residual-in_err-end.ensures.1 in
    let listed = c.loop-holding.invariant.listed in
    rw (fault.1, fault.2)
    (listed_cut_at_end (valued_with c.args.prices.now) c.args.rows.items (g.W.CountedWrite.contents c.args.writer.now) _ c.loop-holding.report _ listed _
    (nil_from_length _ (sym c.loop-holding.holding-iterator.rest.ok.0 ∙ c.in-None.ensures.steps.0)) c.in_err-end.field-0.0
    (λ is. never_both (is_spent c.loop-holding.report) listed.fresh (c.in_err-end.ensures.spent.0 (ap Err is)))
    (c.in_err-end.ensures.text (map (valued_with c.args.prices.now) listed.given) _ listed.has.fed listed.has.written))

pub returns-in_err-end-clause-fault : goal.returns-in_err-end-clause-fault
returns-in_err-end-clause-fault g c =
    let fault = err_from_is_err_and c.from_residual-in_err-end.result c.from_residual-in_err-end.ensures.1 in rw (fault.1, fault.2) tt

pub returns-in_err-end-clause-cause : goal.returns-in_err-end-clause-cause
returns-in_err-end-clause-cause g c =
    of_row c.from_residual-in_err-end.result c.in_err-end.field-0.0 (record { before = g.W.CountedWrite.calls c.args.writer.now; after = g.W.CountedWrite.calls c.end.new.writer }) c.from_residual-in_err-end.ensures.1 (λ is. c.in_err-end.ensures.cause (ap Err is))

pub returns-clause-shows : goal.returns-clause-shows
returns-clause-shows g c =
    let listed = c.loop-holding.invariant.listed in
    listed_whole (valued_with c.args.prices.now) c.args.rows.items (g.W.CountedWrite.contents c.args.writer.now) _ c.loop-holding.report _ listed _
    (nil_from_length _ (sym c.loop-holding.holding-iterator.rest.ok.0 ∙ c.in-None.ensures.steps.0)) tt
    (c.in_ok-end.ensures.text (map (valued_with c.args.prices.now) listed.given) _ listed.has.fed listed.has.written)

pub returns-clause-cause : goal.returns-clause-cause
returns-clause-cause g c = c.in_ok-end.ensures.none_failed ∙ c.loop-holding.invariant.none_failed
