-- The gains of the sales that the walk has given are in the sums, and the book was read without a fault.
use Rattle.std.proofs.Common.{◌≡◌, ◌≢◌, ◌<◌, None}
use Rattle.lot_book_report.proofs.ReadLemmas.{IsReading}
use Rattle.lot_compare.proofs.AddLemmas.{HasAdded}
use Rattle.lot_compare.specs.Amounts.{year_amounts}
use Rattle.lot_walk.specs.Gains.{AreSalesWithin, HasLegs, IsBehindSaleRows, IsBehindSales}
use Rattle.lot_walk.specs.declared.gains.NumberedSale.{NumberedSale}
use Rattle.lot_store.specs.declared.book.Condition.TheVariants.{NeedsReopen}
use Rattle.lot_compare.proofs.book.add_gains.Given as goal

abbrev pub invariant-sales : goal.invariant-sales
invariant-sales g l = record {
  same_book : l.walk.book.ghost_name ≡ l.initial.walk.book.ghost_name;
  reading : IsReading g.S.Store l.fn.book l.walk;
  usable : 0 < l.counter → l.fn.book.condition ≢ NeedsReopen;
  added : HasAdded g.S.Store (λ (sold : NumberedSale). sold) HasLegs AreSalesWithin IsBehindSales IsBehindSaleRows
      (λ (sold : NumberedSale). year_amounts sold.sale) l.fn.side l.fn.book (None, None) l.fn.sums.sums.entries l.walk l.sums.sums.entries;
}
