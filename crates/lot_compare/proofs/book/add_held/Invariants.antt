-- The units of the holdings that the walk has given are in the sums, and the book was read without a fault.
use Rattle.std.proofs.Common.{◌≡◌, ◌≢◌, ◌<◌, [], ◌∷◌}
use Rattle.lot_book_report.proofs.ReadLemmas.{IsReading}
use Rattle.lot_compare.proofs.AddLemmas.{HasAdded}
use Rattle.lot_compare.specs.Amounts.{held_amount}
use Rattle.lot_walk.specs.Holdings.{AreHoldings, IsAnyHolding, IsBehindHoldingRows, IsBehindHoldings, shown_holding}
use Rattle.lot_book.specs.declared.holding.Holding.{Holding}
use Rattle.lot_store.specs.declared.book.Condition.TheVariants.{NeedsReopen}
use Rattle.lot_compare.proofs.book.add_held.Given as goal

abbrev pub invariant-holdings : goal.invariant-holdings
invariant-holdings g l = record {
  same_book : l.walk.book.ghost_name ≡ l.initial.walk.book.ghost_name;
  reading : IsReading g.S.Store l.fn.book l.walk;
  usable : 0 < l.counter → l.fn.book.condition ≢ NeedsReopen;
  added : HasAdded g.S.Store shown_holding IsAnyHolding AreHoldings IsBehindHoldings IsBehindHoldingRows
      (λ (held : Holding). held_amount held ∷ []) l.fn.side l.fn.book tt l.fn.sums.sums.entries l.walk l.sums.sums.entries;
}
