use Rattle.std.proofs.Common.{◌∙◌, [], ap, map, Err, Ok, None, Some, arith, refl, rules}
use Rattle.std.proofs.lemmas.Result.{err_from_is_err_and}
use Rattle.lot_added.specs.Added.{AreAddedSales, IsBehindAdded}
use Rattle.lot_added_report.proofs.BeginLemmas.{rows_begin, walk_begins}
use Rattle.lot_report.specs.Gains.{HasTaken, IsEnd, fits, is_spent, sale_lines}
use Rattle.lot_book_report.proofs.CauseLemmas.{of_row, of_walk}
use Rattle.lot_book_report.proofs.FeedLemmas.{fed_none, feeds_more, rows_whole, shows_cut, shows_cut_at_end, shows_short, shows_stopped, shows_whole, some_cut, some_cut_at_end, some_stopped, some_whole}
use Rattle.lot_book_report.proofs.ReadLemmas.{handed, handed_holds, handed_tables, is_failure, is_false, never_both, reads_cut, reads_from, reads_short, reads_whole, stops, usable, walked_out, walks_on}
use Rattle.lot_book_report.specs.Gains.{sale_in}
use Rattle.lot_walk.specs.declared.gains.NumberedSale.{NumberedSale}
use Rattle.lot_walk.specs.Gains.{HasLegs}
use Rattle.lot_store.specs.declared.fault.StoreFault.TheVariants.{Memory}
use Rattle.lot_store.specs.declared.walk.WalkFault.TheVariants.{Failed}
use Rattle.lot_added_report.proofs.show.show_added_gains.Goals as goal

pub sales-init : goal.sales-init
sales-init g c = record {
  same_book = refl;
  reading = reads_from g.S.Store c.args.book.now c.walk_from-walk.result c.walk_from-walk.ensures.going c.walk_from-walk.ensures.same;
  usable = λ below. absurd (omega arith);
  none_failed = refl;
  fresh = c.new-report.ensures.spent;
  feeds = record {
    given = [];
    gave = record {
      of_book = λ clean.
          walk_begins g.S.Store c.args.book.now c.walk_from-walk.result c.new.result c.args.behind c.walk_from-walk.ensures.going
          c.walk_from-walk.ensures.place c.walk_from-walk.ensures.same c.new.ensures.begun;
      of_rows = λ clean.
          rows_begin g.S.Store c.args.book.now c.walk_from-walk.result c.new.result c.args.behind c.walk_from-walk.ensures.going
          c.walk_from-walk.ensures.place c.walk_from-walk.ensures.same c.new.ensures.rows;
    };
    good = tt;
    has = fed_none sale_in sale_lines fits HasTaken IsEnd (g.W.CountedWrite.contents c.args.writer.now) c.new-report.result.progress c.new-report.ensures.fed;
  };
}

pub returns-in_err-sold-clause-shows : goal.returns-in_err-sold-clause-shows
returns-in_err-sold-clause-shows g c =
    let fault = err_from_is_err_and c.from_residual.result c.from_residual.ensures.1 in
    let loop = c.sales.invariant in
    let before = c.sales.walk in
    let after = c.next.new.self in
    let walks = c.in_err-sold.ensures.walks in
    let failure = is_failure g.S.Store (λ (sold : NumberedSale). sold) HasLegs AreAddedSales IsBehindAdded c.args.book.now before after loop.reading c.in_err-sold.field-0.0 walks in
    rw (fault.1, fault.2, failure.1)
    (handed_holds g.S.Store c.args.book.now after.book.now _ _ (search rules)
    (shows_stopped before _ c.sales.report.progress loop.feeds after c.in_err-sold.field-0.0 walks failure.0))

pub returns-in_err-sold-clause-some : goal.returns-in_err-sold-clause-some
returns-in_err-sold-clause-some g c =
    let fault = err_from_is_err_and c.from_residual.result c.from_residual.ensures.1 in
    let loop = c.sales.invariant in
    let failure = is_failure g.S.Store (λ (sold : NumberedSale). sold) HasLegs AreAddedSales IsBehindAdded c.args.book.now c.sales.walk c.next.new.self loop.reading c.in_err-sold.field-0.0 c.in_err-sold.ensures.walks in
    rw (fault.1, fault.2, failure.1) (some_stopped c.sales.walk _ c.sales.report.progress loop.feeds failure.0)

pub returns-in_err-sold-clause-rows : goal.returns-in_err-sold-clause-rows
returns-in_err-sold-clause-rows g c =
    let fault = err_from_is_err_and c.from_residual.result c.from_residual.ensures.1 in rw fault.1 (record { holds = λ clean tables has. tt })

pub returns-in_err-sold-clause-reads : goal.returns-in_err-sold-clause-reads
returns-in_err-sold-clause-reads g c =
    let fault = err_from_is_err_and c.from_residual.result c.from_residual.ensures.1 in
    let loop = c.sales.invariant in
    rw (fault.1, fault.2)
    (handed g.S.Store c.args.book.now c.next.new.self.book.now _ (Err _) (search rules)
    (stops g.S.Store (λ (sold : NumberedSale). sold) HasLegs AreAddedSales IsBehindAdded c.args.book.now c.sales.walk c.next.new.self loop.reading c.in_err-sold.field-0.0
    (λ clean entries stands. (c.args.behind, loop.feeds.given, loop.feeds.gave.of_book clean entries stands))
    c.in_err-sold.ensures.walks))

pub returns-in_err-end-clause-shows : goal.returns-in_err-end-clause-shows
returns-in_err-end-clause-shows g c =
    let fault = err_from_is_err_and c.from_residual-in_err-end.result c.from_residual-in_err-end.ensures.1 in
    let loop = c.sales.invariant in
    let feeds = loop.feeds in
    let after = c.next.new.self in
    let walks = rw c.in_default.is at c.in_ok-sold.ensures.walks in
    let spent = c.in_err-end.ensures.spent in
    rw (fault.1, fault.2)
    (handed_holds g.S.Store c.args.book.now after.book.now _ _ (search rules)
    (shows_cut_at_end c.sales.walk _ c.sales.report.progress feeds after _ c.in_err-end.field-0.0
    (λ is. never_both (is_spent c.sales.report) loop.fresh (spent.0 (ap Err is)))
    (c.in_err-end.ensures.text (map sale_in feeds.given) _ feeds.has.fed feeds.has.written) walks))

pub returns-in_err-end-clause-some : goal.returns-in_err-end-clause-some
returns-in_err-end-clause-some g c =
    let fault = err_from_is_err_and c.from_residual-in_err-end.result c.from_residual-in_err-end.ensures.1 in
    let loop = c.sales.invariant in
    let feeds = loop.feeds in
    let spent = c.in_err-end.ensures.spent in
    rw (fault.1, fault.2)
    (some_cut_at_end c.sales.walk _ c.sales.report.progress feeds c.next.new.self _ c.in_err-end.field-0.0
    (λ is. never_both (is_spent c.sales.report) loop.fresh (spent.0 (ap Err is)))
    (c.in_err-end.ensures.text (map sale_in feeds.given) _ feeds.has.fed feeds.has.written))

pub returns-in_err-end-clause-rows : goal.returns-in_err-end-clause-rows
returns-in_err-end-clause-rows g c =
    let fault = err_from_is_err_and c.from_residual-in_err-end.result c.from_residual-in_err-end.ensures.1 in rw fault.1 (record { holds = λ clean tables has. tt })

pub returns-in_err-end-clause-reads : goal.returns-in_err-end-clause-reads
returns-in_err-end-clause-reads g c =
    let fault = err_from_is_err_and c.from_residual-in_err-end.result c.from_residual-in_err-end.ensures.1 in
    let loop = c.sales.invariant in
    let before = c.sales.walk in
    let after = c.next.new.self in
    let walks = rw c.in_default.is at c.in_ok-sold.ensures.walks in
    let spent = c.in_err-end.ensures.spent in
    rw (fault.1, fault.2)
    (handed g.S.Store c.args.book.now after.book.now _ (Err _) (search rules)
    (reads_cut g.S.Store c.args.book.now after.book.now c.in_err-end.field-0.0
    (λ is. never_both (is_spent c.sales.report) loop.fresh (spent.0 (ap Err is)))
    (walked_out g.S.Store (λ (sold : NumberedSale). sold) HasLegs AreAddedSales IsBehindAdded c.args.book.now before after loop.reading walks)
    (usable g.S.Store (λ (sold : NumberedSale). sold) HasLegs AreAddedSales IsBehindAdded c.args.book.now before after loop.reading None walks)))

pub returns-in_default-clause-shows : goal.returns-in_default-clause-shows
returns-in_default-clause-shows g c =
    let loop = c.sales.invariant in
    let feeds = loop.feeds in
    let after = c.next.new.self in
    let walks = rw c.in_default.is at c.in_ok-sold.ensures.walks in
    handed_holds g.S.Store c.args.book.now after.book.now _ _ (search rules)
    (shows_whole c.sales.walk _ c.sales.report.progress feeds after _ tt
    (c.in_ok-end.ensures.text (map sale_in feeds.given) _ feeds.has.fed feeds.has.written) walks)

pub returns-in_default-clause-some : goal.returns-in_default-clause-some
returns-in_default-clause-some g c =
    let feeds = c.sales.invariant.feeds in
    some_whole c.sales.walk _ c.sales.report.progress feeds c.next.new.self _ tt
    (c.in_ok-end.ensures.text (map sale_in feeds.given) _ feeds.has.fed feeds.has.written)

pub returns-in_default-clause-rows : goal.returns-in_default-clause-rows
returns-in_default-clause-rows g c =
    let feeds = c.sales.invariant.feeds in
    let after = c.next.new.self in
    let walks = rw c.in_default.is at c.in_ok-sold.ensures.walks in
    let rows = rw c.in_default.is at c.in_ok-sold.ensures.rows in
    handed_tables g.S.Store c.args.book.now after.book.now _ _ (search rules)
    (rows_whole c.sales.walk _ c.sales.report.progress feeds after _ tt
    (c.in_ok-end.ensures.text (map sale_in feeds.given) _ feeds.has.fed feeds.has.written) walks rows)

pub returns-in_default-clause-reads : goal.returns-in_default-clause-reads
returns-in_default-clause-reads g c =
    let loop = c.sales.invariant in
    let before = c.sales.walk in
    let after = c.next.new.self in
    let walks = rw c.in_default.is at c.in_ok-sold.ensures.walks in
    handed g.S.Store c.args.book.now after.book.now _ (Ok tt) (search rules)
    (reads_whole g.S.Store c.args.book.now after.book.now tt
    (walked_out g.S.Store (λ (sold : NumberedSale). sold) HasLegs AreAddedSales IsBehindAdded c.args.book.now before after loop.reading walks)
    (usable g.S.Store (λ (sold : NumberedSale). sold) HasLegs AreAddedSales IsBehindAdded c.args.book.now before after loop.reading None walks))

pub returns-in_err-row-clause-shows : goal.returns-in_err-row-clause-shows
returns-in_err-row-clause-shows g c =
    let fault = err_from_is_err_and c.from_residual-in_err-row.result c.from_residual-in_err-row.ensures.1 in
    let loop = c.sales.invariant in
    let feeds = loop.feeds in
    let after = c.next.new.self in
    let walks = rw c.in-Some.is at c.in_ok-sold.ensures.walks in
    let rows = rw c.in-Some.is at c.in_ok-sold.ensures.rows in
    let spent = c.in_err-row.ensures.spent in
    rw (fault.1, fault.2)
    (handed_holds g.S.Store c.args.book.now after.book.now _ _ (search rules)
    (shows_cut c.sales.walk _ c.sales.report.progress feeds after _ c.row.new.self.progress c.in-Some.sold c.in-Some.sold.sale c.in_err-row.field-0.0
    (λ is. never_both (is_spent c.sales.report) loop.fresh (spent.0 (ap Err is))) refl
    (c.in_err-row.ensures.text (map sale_in feeds.given) _ feeds.has.fed feeds.has.written) walks rows))

pub returns-in_err-row-clause-some : goal.returns-in_err-row-clause-some
returns-in_err-row-clause-some g c =
    let fault = err_from_is_err_and c.from_residual-in_err-row.result c.from_residual-in_err-row.ensures.1 in
    let loop = c.sales.invariant in
    let feeds = loop.feeds in
    let spent = c.in_err-row.ensures.spent in
    rw (fault.1, fault.2)
    (some_cut c.sales.walk _ c.sales.report.progress feeds c.next.new.self _ c.row.new.self.progress c.in-Some.sold c.in-Some.sold.sale c.in_err-row.field-0.0
    (λ is. never_both (is_spent c.sales.report) loop.fresh (spent.0 (ap Err is))) refl
    (c.in_err-row.ensures.text (map sale_in feeds.given) _ feeds.has.fed feeds.has.written))

pub returns-in_err-row-clause-rows : goal.returns-in_err-row-clause-rows
returns-in_err-row-clause-rows g c =
    let fault = err_from_is_err_and c.from_residual-in_err-row.result c.from_residual-in_err-row.ensures.1 in rw fault.1 (record { holds = λ clean tables has. tt })

pub returns-in_err-row-clause-reads : goal.returns-in_err-row-clause-reads
returns-in_err-row-clause-reads g c =
    let fault = err_from_is_err_and c.from_residual-in_err-row.result c.from_residual-in_err-row.ensures.1 in
    let loop = c.sales.invariant in
    let before = c.sales.walk in
    let after = c.next.new.self in
    let walks = rw c.in-Some.is at c.in_ok-sold.ensures.walks in
    let on = walks_on g.S.Store (λ (sold : NumberedSale). sold) HasLegs AreAddedSales IsBehindAdded c.args.book.now before after loop.reading c.in-Some.sold walks in
    let spent = c.in_err-row.ensures.spent in
    rw (fault.1, fault.2)
    (handed g.S.Store c.args.book.now after.book.now _ (Err _) (search rules)
    (reads_cut g.S.Store c.args.book.now after.book.now c.in_err-row.field-0.0
    (λ is. never_both (is_spent c.sales.report) loop.fresh (spent.0 (ap Err is))) on.read
    (usable g.S.Store (λ (sold : NumberedSale). sold) HasLegs AreAddedSales IsBehindAdded c.args.book.now before after loop.reading (Some c.in-Some.sold) walks)))

pub sales-preserved : goal.sales-preserved
sales-preserved g c =
    let loop = c.sales.invariant in
    let feeds = loop.feeds in
    let before = c.sales.walk in
    let after = c.next.new.self in
    let walks = rw c.in-Some.is at c.in_ok-sold.ensures.walks in
    let rows = rw c.in-Some.is at c.in_ok-sold.ensures.rows in
    record {
      same_book = c.in_ok-sold.ensures.same_reference ∙ loop.same_book;
      reading = walks_on g.S.Store (λ (sold : NumberedSale). sold) HasLegs AreAddedSales IsBehindAdded c.args.book.now before after loop.reading c.in-Some.sold walks;
      usable = λ below. usable g.S.Store (λ (sold : NumberedSale). sold) HasLegs AreAddedSales IsBehindAdded c.args.book.now before after loop.reading (Some c.in-Some.sold) walks;
      none_failed = c.in_ok-row.ensures.none_failed ∙ loop.none_failed;
      fresh = is_false (is_spent c.row.new.self) c.in_ok-row.ensures.after.1;
      feeds = feeds_more before _ c.sales.report.progress feeds after _ c.row.new.self.progress c.in-Some.sold c.in-Some.sold.sale tt refl walks rows
          (c.in_ok-row.ensures.text (map sale_in feeds.given) _ feeds.has.fed feeds.has.written);
    }

pub returns-clause-shows : goal.returns-clause-shows
returns-clause-shows g c =
    let loop = c.sales.invariant in
    rw c.from.ensures
    (handed_holds g.S.Store c.args.book.now c.sales.walk.book.now _ _ (search rules)
    (shows_short c.sales.walk _ c.sales.report.progress loop.feeds Memory))

pub returns-clause-some : goal.returns-clause-some
returns-clause-some g c =
    let loop = c.sales.invariant in
    rw c.from.ensures (some_stopped c.sales.walk _ c.sales.report.progress loop.feeds Memory)

pub returns-clause-reads : goal.returns-clause-reads
returns-clause-reads g c =
    let loop = c.sales.invariant in
    rw c.from.ensures
    (handed g.S.Store c.args.book.now c.sales.walk.book.now _ (Err _) (search rules)
    (reads_short g.S.Store c.args.book.now c.sales.walk.book.now loop.reading.read (loop.usable (omega arith))))

pub returns-in_err-sold-clause-cause : goal.returns-in_err-sold-clause-cause
returns-in_err-sold-clause-cause g c = of_walk c.from_residual.result c.in_err-sold.field-0.0 (record { before = g.W.CountedWrite.calls c.args.writer.now; after = g.W.CountedWrite.calls c.sales.writer }) c.from_residual.ensures.1 c.sales.invariant.none_failed

pub returns-in_err-end-clause-cause : goal.returns-in_err-end-clause-cause
returns-in_err-end-clause-cause g c =
    of_row c.from_residual-in_err-end.result c.in_err-end.field-0.0 (record { before = g.W.CountedWrite.calls c.args.writer.now; after = g.W.CountedWrite.calls c.end.new.writer }) c.from_residual-in_err-end.ensures.1 (λ is. c.in_err-end.ensures.cause (ap Err is))

pub returns-in_err-row-clause-cause : goal.returns-in_err-row-clause-cause
returns-in_err-row-clause-cause g c =
    of_row c.from_residual-in_err-row.result c.in_err-row.field-0.0 (record { before = g.W.CountedWrite.calls c.args.writer.now; after = g.W.CountedWrite.calls c.row.new.writer }) c.from_residual-in_err-row.ensures.1 (λ is. c.in_err-row.ensures.cause (ap Err is))

pub returns-clause-cause : goal.returns-clause-cause
returns-clause-cause g c = of_walk (Err c.from.result) (Failed Memory) (record { before = g.W.CountedWrite.calls c.args.writer.now; after = g.W.CountedWrite.calls c.sales.writer }) c.from.ensures c.sales.invariant.none_failed

pub returns-in_default-clause-cause : goal.returns-in_default-clause-cause
returns-in_default-clause-cause g c = c.in_ok-end.ensures.none_failed ∙ c.sales.invariant.none_failed
