use Rattle.std.proofs.Common.{◌∙◌, Err, Ok, None, Some, arith, refl, rules}
use Rattle.std.proofs.lemmas.Result.{err_from_is_err_and}
use Rattle.lot_book_report.proofs.GivenLemmas.{gave_more}
use Rattle.lot_book_report.proofs.PriceLemmas.{kept_more, kept_none, of_rows, rows_kept}
use Rattle.lot_book_report.proofs.ReadLemmas.{handed, handed_holds, handed_tables, reads_from, reads_short, reads_whole, stops, usable, walked_out, walks_on}
use Rattle.lot_walk.specs.Prices.{ArePricesAt, IsAnyPrice, IsBehindPrices, shown_price}
use Rattle.lot_book_report.proofs.prices.DayPrices.read.Goals as goal

pub prices-init : goal.prices-init
prices-init g c = record {
  same_book = refl;
  reading = reads_from g.S.Store c.args.book.now c.prices-walk.result c.prices-walk.ensures.going c.prices-walk.ensures.same;
  usable = λ below. absurd (omega arith);
  kept = kept_none g.S.Store c.args.book.now c.args.day c.prices-walk.result c.new-rates.result c.new-rates.ensures.empty
      (record { of_book = λ clean. c.prices-walk.ensures.begun; of_rows = λ clean. c.prices-walk.ensures.rows });
}

pub returns-in_err-price-clause-reads : goal.returns-in_err-price-clause-reads
returns-in_err-price-clause-reads g c =
    let fault = err_from_is_err_and c.from_residual.result c.from_residual.ensures.1 in
    let loop = c.prices.invariant in
    rw (fault.1, fault.2)
    (handed g.S.Store c.args.book.now c.next.new.self.book.now _ (Err _) (search rules)
    (stops g.S.Store shown_price IsAnyPrice ArePricesAt IsBehindPrices c.args.book.now c.prices.walk c.next.new.self loop.reading c.in_err-price.field-0.0
    (λ clean entries stands. (c.args.day, loop.kept.given, loop.kept.gave.of_book clean entries stands))
    c.in_err-price.ensures.walks))

pub returns-in_default-clause-rows : goal.returns-in_default-clause-rows
returns-in_default-clause-rows g c =
    let has = c.prices.invariant.kept in
    let after = c.next.new.self in
    let walks = rw c.in_default.is at c.in_ok-price.ensures.walks in
    let rows = rw c.in_default.is at c.in_ok-price.ensures.rows in
    handed_tables g.S.Store c.args.book.now after.book.now _ _ (search rules)
    (rows_kept g.S.Store c.args.book.now c.args.day c.prices.walk after (record { rates = c.prices.rates }) has walks rows)

pub returns-in_default-clause-prices : goal.returns-in_default-clause-prices
returns-in_default-clause-prices g c =
    let has = c.prices.invariant.kept in
    let after = c.next.new.self in
    let walks = rw c.in_default.is at c.in_ok-price.ensures.walks in
    let rows = rw c.in_default.is at c.in_ok-price.ensures.rows in
    handed_holds g.S.Store c.args.book.now after.book.now _ _ (search rules)
    (of_rows g.S.Store c.args.book.now after.book.now c.args.day (record { rates = c.prices.rates })
    (rows_kept g.S.Store c.args.book.now c.args.day c.prices.walk after (record { rates = c.prices.rates }) has walks rows))

pub returns-in_default-clause-reads : goal.returns-in_default-clause-reads
returns-in_default-clause-reads g c =
    let loop = c.prices.invariant in
    let before = c.prices.walk in
    let after = c.next.new.self in
    let walks = rw c.in_default.is at c.in_ok-price.ensures.walks in
    handed g.S.Store c.args.book.now after.book.now _ (Ok _) (search rules)
    (reads_whole g.S.Store c.args.book.now after.book.now _
    (walked_out g.S.Store shown_price IsAnyPrice ArePricesAt IsBehindPrices c.args.book.now before after loop.reading walks)
    (usable g.S.Store shown_price IsAnyPrice ArePricesAt IsBehindPrices c.args.book.now before after loop.reading None walks))

pub returns-in_err-keep-clause-reads : goal.returns-in_err-keep-clause-reads
returns-in_err-keep-clause-reads g c =
    let fault = err_from_is_err_and c.from_residual-in_err-keep.result c.from_residual-in_err-keep.ensures.1 in
    let loop = c.prices.invariant in
    let before = c.prices.walk in
    let after = c.next.new.self in
    let walks = rw c.in-Some.is at c.in_ok-price.ensures.walks in
    let on = walks_on g.S.Store shown_price IsAnyPrice ArePricesAt IsBehindPrices c.args.book.now before after loop.reading c.in-Some.price walks in
    rw (fault.1, fault.2)
    (handed g.S.Store c.args.book.now after.book.now _ (Err _) (search rules)
    (reads_short g.S.Store c.args.book.now after.book.now on.read
    (usable g.S.Store shown_price IsAnyPrice ArePricesAt IsBehindPrices c.args.book.now before after loop.reading (Some c.in-Some.price) walks)))

pub prices-preserved : goal.prices-preserved
prices-preserved g c =
    let loop = c.prices.invariant in
    let before = c.prices.walk in
    let after = c.next.new.self in
    let walks = rw c.in-Some.is at c.in_ok-price.ensures.walks in
    let rows = rw c.in-Some.is at c.in_ok-price.ensures.rows in
    record {
      same_book = c.in_ok-price.ensures.same_reference ∙ loop.same_book;
      reading = walks_on g.S.Store shown_price IsAnyPrice ArePricesAt IsBehindPrices c.args.book.now before after loop.reading c.in-Some.price walks;
      usable = λ below. usable g.S.Store shown_price IsAnyPrice ArePricesAt IsBehindPrices c.args.book.now before after loop.reading (Some c.in-Some.price) walks;
      kept = kept_more g.S.Store c.args.book.now c.args.day before after c.prices.rates c.keep.new.rates c.in-Some.price loop.kept
          (gave_more loop.kept.gave c.in-Some.price walks rows) c.in_ok-keep.ensures;
    }

pub returns-clause-reads : goal.returns-clause-reads
returns-clause-reads g c =
    let loop = c.prices.invariant in
    rw c.from.ensures
    (handed g.S.Store c.args.book.now c.prices.walk.book.now _ (Err _) (search rules)
    (reads_short g.S.Store c.args.book.now c.prices.walk.book.now loop.reading.read (loop.usable (omega arith))))
