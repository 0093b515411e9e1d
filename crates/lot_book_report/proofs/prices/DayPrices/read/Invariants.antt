-- The prices that the walk has given are kept, and the book was read without a fault.
use Rattle.std.proofs.Common.{◌≡◌, ◌≢◌, ◌<◌}
use Rattle.lot_book_report.proofs.PriceLemmas.{HasKept}
use Rattle.lot_book_report.proofs.ReadLemmas.{IsReading}
use Rattle.lot_store.specs.declared.book.Condition.TheVariants.{NeedsReopen}
use Rattle.lot_book_report.proofs.prices.DayPrices.read.Given as goal

abbrev pub invariant-prices : goal.invariant-prices
invariant-prices g l = record {
  same_book : l.walk.book.ghost_name ≡ l.initial.walk.book.ghost_name;
  reading : IsReading g.S.Store l.fn.book l.walk;
  usable : 0 < l.counter → l.fn.book.condition ≢ NeedsReopen;
  kept : HasKept g.S.Store l.fn.book l.fn.day l.walk l.rates;
}
