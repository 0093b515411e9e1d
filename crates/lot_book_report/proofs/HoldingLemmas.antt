-- The report of holdings, before and behind the prices that it values lots at.
use Rattle.std.proofs.Common.{◌≢◌, ℕ, ℤ, [], List, Option, None, Some, Result, Ok, Err, map, refl, subst}
use Rattle.std.proofs.KnownBytes.{Appends-nil}
use Rattle.std.specs.List.{AllByRecursion}
use Rattle.sqlite.specs.State.{State}
use Rattle.sqlite.specs.Store.{Ghosts}
use Rattle.lot_book.specs.Facts.{Entry}
use Rattle.lot_book.specs.declared.holding.Holding.{Holding}
use Rattle.lot_stored.specs.StandFor.{Stands}
use Rattle.lot_report.specs.Holdings.{IsEnd, fits, row_lines}
use Rattle.lot_report.specs.declared.holdings.ValuedHolding.{ValuedHolding}
use Rattle.lot_book_report.proofs.PriceLemmas.{all_valued, none_valued}
use Rattle.lot_rows.specs.Tables.{Tables}
use Rattle.lot_book_report.specs.Holdings.{KeepsPrices, KeepsRowPrices, ShowsAllHoldings, ShowsAllWith, ShowsHoldings, ShowsWith, valued_by, valued_with}
use Rattle.lot_book_report.specs.Show.{HoldsOfTables, IsOfBook, ReadsBook, Shows, WritesWhole}
use Rattle.lot_book_report.specs.declared.fault.ShowFault.{ShowFault}
use Rattle.lot_book_report.specs.declared.fault.ShowFault.TheVariants.{Row as AtRow, Walk as AtWalk}
use Rattle.lot_book_report.specs.declared.prices.DayPrices.{DayPrices}
use Rattle.lot_walk.proofs.HoldingLemmas.{merged_holdings}
use Rattle.lot_walk.proofs.PriceLemmas.{prices_at_day}
use Rattle.lot_walk.specs.Holdings.{AreAllHoldingRows, IsAnyHolding, merged}
use Rattle.lot_walk.specs.Prices.{prices_by}
use Rattle.lot_store.specs.declared.book.Book.{Book}
use Rattle.lot_store.specs.declared.walk.WalkFault.TheVariants.{Ended, Failed}

-- the book stops before the first row
pub not_begun : (old : State) (entries : List Entry) (day : ℤ) (start : Option (List ℕ)) (fault : ShowFault) → IsOfBook fault → fault ≢ AtWalk Ended
    → Stands old entries → ShowsHoldings entries (Some day) start start (Err fault)
not_begun old entries day start (AtWalk (Failed cause)) of_book going stands =
    let tables = stands.tables in
    let prices = prices_by day tables.price in
    let holdings = merged tables.plain tables.lot in (
      Some prices,
      prices_at_day tables entries day stands.stand,
      holdings,
      merged_holdings tables entries stands.stand,
      ([], map (valued_by (Some prices)) holdings, refl, tt, Appends-nil start),
    )
not_begun old entries day start (AtWalk Ended) of_book going stands = absurd (going refl)
not_begun old entries day start (AtRow fault) of_book going stands = absurd of_book

module _ (entries : List Entry) (start now : Option (List ℕ)) (result : Result (Unit {0}) ShowFault) where
  pub with_prices : (day : ℤ) (prices : DayPrices)
      → KeepsPrices entries day prices → ShowsWith entries (Some prices) start now result → ShowsHoldings entries (Some day) start now result
  with_prices day prices (rows, are, same) (holdings, is, shows) = (
    Some rows,
    are,
    holdings,
    is,
    subst (λ (all : List ValuedHolding). Shows row_lines fits IsEnd all start now result) (all_valued prices rows same holdings) shows,
  )

  pub without_prices : ShowsWith entries None start now result → ShowsHoldings entries None start now result
  without_prices (holdings, is, shows) = (
    None,
    tt,
    holdings,
    is,
    subst (λ (all : List ValuedHolding). Shows row_lines fits IsEnd all start now result) (none_valued holdings) shows,
  )

-- every holding is good
pub all_rows_shown : {S : Type 0} (g : Ghosts S) (old new : Book S g) (prices : Option DayPrices) (start now : Option (List ℕ))
    → HoldsOfTables g old new (λ tables. (all : List Holding) × AreAllHoldingRows tt tables all × AllByRecursion IsAnyHolding all
    × WritesWhole row_lines fits IsEnd (map (valued_with prices) all) start now)
    → HoldsOfTables g old new (λ tables. ShowsAllWith tables prices start now (Ok tt))
all_rows_shown g old new prices start now shows = record {
  holds = λ clean tables has. let (all, are, good, wrote) = shows.holds clean tables has in (all, are, wrote);
}

-- the same of the rows of the tables
module _ (tables : Tables) (start now : Option (List ℕ)) where
  pub rows_with_prices : (day : ℤ) (prices : DayPrices) (result : Result (Unit {0}) ShowFault)
      → KeepsRowPrices tables day prices → ShowsAllWith tables (Some prices) start now result → ShowsAllHoldings tables (Some day) start now result
  rows_with_prices day prices (Ok done) keeps (holdings, are, wrote) = (
    holdings,
    are,
    subst (λ (all : List ValuedHolding). WritesWhole row_lines fits IsEnd all start now) (all_valued prices (prices_by day tables.price) keeps holdings) wrote,
  )
  rows_with_prices day prices (Err fault) keeps shows = tt

  pub rows_without_prices : (result : Result (Unit {0}) ShowFault) → ShowsAllWith tables None start now result → ShowsAllHoldings tables None start now result
  rows_without_prices (Ok done) (holdings, are, wrote) =
      (holdings, are, subst (λ (all : List ValuedHolding). WritesWhole row_lines fits IsEnd all start now) (none_valued holdings) wrote)
  rows_without_prices (Err fault) shows = tt

-- a fault of reading the prices is one of the report
pub same_fault : {S A B : Type 0} (g : Ghosts S) (old new : Book S g) (fault : ShowFault) → ReadsBook {A = A} g old new (Err fault) → ReadsBook {A = B} g old new (Err fault)
same_fault {A} {B} g old new (AtWalk fault) reads = record {
  reopen = (λ is. reads.reopen.0 (cc), λ spent. let at = reads.reopen.1 spent in cc);
  condition = reads.condition;
  failed = λ clean is. reads.failed clean (cc);
  damaged = λ clean is. reads.damaged clean (cc);
  sure = λ is. reads.sure (cc);
  going = λ is. reads.going (cc);
  unspent = λ is. cc;
  same = reads.same;
  left = reads.left;
  crash = reads.crash;
}
same_fault {A} {B} g old new (AtRow fault) reads = record {
  reopen = (λ is. cc, λ spent. let at = reads.reopen.1 spent in cc);
  condition = reads.condition;
  failed = λ clean is. cc;
  damaged = λ clean is. cc;
  sure = λ is. cc;
  going = λ is. cc;
  unspent = λ is. reads.unspent (cc);
  same = reads.same;
  left = reads.left;
  crash = reads.crash;
}
