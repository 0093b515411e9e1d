use Rattle.std.proofs.Common.{◌∙◌, Err, Ok, None, Some, arith, refl, rules}
use Rattle.std.proofs.lemmas.Result.{err_from_is_err_and}
use Rattle.lot_book_report.proofs.ReadLemmas.{handed, handed_holds, reads_cut, reads_from, reads_short, reads_whole, stops, usable, walked_out, walks_on}
use Rattle.lot_compare.proofs.AddLemmas.{added_all, added_more, added_none, gains_added, sum_not_of_writer, sum_unspent}
use Rattle.lot_compare.specs.Amounts.{year_amounts}
use Rattle.lot_walk.specs.declared.gains.NumberedSale.{NumberedSale}
use Rattle.lot_walk.specs.Gains.{AreSalesWithin, HasLegs, IsBehindSaleRows, IsBehindSales}
use Rattle.lot_compare.proofs.book.add_gains.Goals as goal

pub sales-init : goal.sales-init
sales-init g c = record {
  same_book = refl;
  reading = reads_from g.S.Store c.args.book.now c.gains-walk.result c.gains-walk.ensures.going c.gains-walk.ensures.same;
  usable = λ below. absurd (omega arith);
  added = added_none g.S.Store (λ (sold : NumberedSale). sold) HasLegs AreSalesWithin IsBehindSales IsBehindSaleRows
      (λ (sold : NumberedSale). year_amounts sold.sale) c.args.side c.args.book.now (None, None) c.args.sums.now.sums.entries c.gains-walk.result
      (record { of_book = λ clean. c.gains-walk.ensures.begun; of_rows = λ clean. c.gains-walk.ensures.rows });
}

pub returns-in_err-sold-clause-reads : goal.returns-in_err-sold-clause-reads
returns-in_err-sold-clause-reads g c =
    let fault = err_from_is_err_and c.from_residual.result c.from_residual.ensures.1 in
    let loop = c.sales.invariant in
    rw (fault.1, fault.2)
    (handed g.S.Store c.args.book.now c.next.new.self.book.now _ (Err _) (search rules)
    (stops g.S.Store (λ (sold : NumberedSale). sold) HasLegs AreSalesWithin IsBehindSales c.args.book.now c.sales.walk c.next.new.self loop.reading c.in_err-sold.field-0.0
    (λ clean entries stands. ((None, None), loop.added.given, loop.added.gave.of_book clean entries stands))
    c.in_err-sold.ensures.walks))

pub returns-in_default-clause-sums : goal.returns-in_default-clause-sums
returns-in_default-clause-sums g c =
    let after = c.next.new.self in
    let walks = rw c.in_default.is at c.in_ok-sold.ensures.walks in
    handed_holds g.S.Store c.args.book.now after.book.now _ _ (search rules)
    (gains_added g.S.Store c.args.book.now after.book.now c.args.side c.args.sums.now.sums.entries c.sales.sums.sums.entries
    (added_all g.S.Store (λ (sold : NumberedSale). sold) HasLegs AreSalesWithin IsBehindSales IsBehindSaleRows
    (λ (sold : NumberedSale). year_amounts sold.sale) c.args.side c.args.book.now (None, None) c.args.sums.now.sums.entries c.sales.walk after c.sales.sums.sums.entries
    c.sales.invariant.added walks))

pub returns-in_default-clause-reads : goal.returns-in_default-clause-reads
returns-in_default-clause-reads g c =
    let loop = c.sales.invariant in
    let before = c.sales.walk in
    let after = c.next.new.self in
    let walks = rw c.in_default.is at c.in_ok-sold.ensures.walks in
    handed g.S.Store c.args.book.now after.book.now _ (Ok tt) (search rules)
    (reads_whole g.S.Store c.args.book.now after.book.now tt
    (walked_out g.S.Store (λ (sold : NumberedSale). sold) HasLegs AreSalesWithin IsBehindSales c.args.book.now before after loop.reading walks)
    (usable g.S.Store (λ (sold : NumberedSale). sold) HasLegs AreSalesWithin IsBehindSales c.args.book.now before after loop.reading None walks))

pub returns-in_err-add_sale-clause-fault : goal.returns-in_err-add_sale-clause-fault
returns-in_err-add_sale-clause-fault g c =
    let fault = err_from_is_err_and c.from_residual-in_err-add_sale.result c.from_residual-in_err-add_sale.ensures.1 in
    rw (fault.1, fault.2) (sum_not_of_writer c.in_err-add_sale.field-0.0 c.in_err-add_sale.ensures.cause)

pub returns-in_err-add_sale-clause-reads : goal.returns-in_err-add_sale-clause-reads
returns-in_err-add_sale-clause-reads g c =
    let fault = err_from_is_err_and c.from_residual-in_err-add_sale.result c.from_residual-in_err-add_sale.ensures.1 in
    let loop = c.sales.invariant in
    let before = c.sales.walk in
    let after = c.next.new.self in
    let walks = rw c.in-Some.is at c.in_ok-sold.ensures.walks in
    let on = walks_on g.S.Store (λ (sold : NumberedSale). sold) HasLegs AreSalesWithin IsBehindSales c.args.book.now before after loop.reading c.in-Some.sold walks in
    rw (fault.1, fault.2)
    (handed g.S.Store c.args.book.now after.book.now _ (Err _) (search rules)
    (reads_cut g.S.Store c.args.book.now after.book.now c.in_err-add_sale.field-0.0
    (sum_unspent c.in_err-add_sale.field-0.0 c.in_err-add_sale.ensures.cause) on.read
    (usable g.S.Store (λ (sold : NumberedSale). sold) HasLegs AreSalesWithin IsBehindSales c.args.book.now before after loop.reading (Some c.in-Some.sold) walks)))

pub sales-preserved : goal.sales-preserved
sales-preserved g c =
    let loop = c.sales.invariant in
    let before = c.sales.walk in
    let after = c.next.new.self in
    let walks = rw c.in-Some.is at c.in_ok-sold.ensures.walks in
    let rows = rw c.in-Some.is at c.in_ok-sold.ensures.rows in
    record {
      same_book = c.in_ok-sold.ensures.same_reference ∙ loop.same_book;
      reading = walks_on g.S.Store (λ (sold : NumberedSale). sold) HasLegs AreSalesWithin IsBehindSales c.args.book.now before after loop.reading c.in-Some.sold walks;
      usable = λ below. usable g.S.Store (λ (sold : NumberedSale). sold) HasLegs AreSalesWithin IsBehindSales c.args.book.now before after loop.reading (Some c.in-Some.sold) walks;
      added = added_more g.S.Store (λ (sold : NumberedSale). sold) HasLegs AreSalesWithin IsBehindSales IsBehindSaleRows
          (λ (sold : NumberedSale). year_amounts sold.sale) c.args.side c.args.book.now (None, None) c.args.sums.now.sums.entries before after
          c.sales.sums.sums.entries c.add_sale.new.sums.sums.entries c.in-Some.sold loop.added walks rows c.in_ok-add_sale.ensures.added;
    }

pub returns-clause-reads : goal.returns-clause-reads
returns-clause-reads g c =
    let loop = c.sales.invariant in
    rw c.from.ensures
    (handed g.S.Store c.args.book.now c.sales.walk.book.now _ (Err _) (search rules)
    (reads_short g.S.Store c.args.book.now c.sales.walk.book.now loop.reading.read (loop.usable (omega arith))))
