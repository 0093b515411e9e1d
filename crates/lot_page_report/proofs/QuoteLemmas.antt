-- The prices of a book: the walk over them begins before the first, and those of each pair lie in the order of their days.
use Rattle.std.specs.Prelude.{◌<ℤ◌, true}
use Rattle.std.specs.List.{AllByRecursion}
use Rattle.std.specs.Ordering.{int_cmp, ordering_then}
use Rattle.std.specs.declared.cmp.Ordering.{Ordering}
use Rattle.std.specs.declared.cmp.Ordering.TheVariants.{Less}
use Rattle.std.proofs.Common.{◌≡◌, ◌≤ℤ◌, ℤ, List, [], ◌∷◌, sym, ap, subst, ◌∙◌, arith}
use Rattle.std.proofs.lemmas.Cmp.{int_ranked, tied_itself}
use Rattle.std.proofs.lemmas.Int.{ints}
use Rattle.sqlite.specs.Held.{state}
use Rattle.sqlite.specs.Store.{Ghosts}
use Rattle.lot_book.specs.Facts.{Entry}
use Rattle.lot_months.specs.Prices.{AreInDayOrder, is_price_of}
use Rattle.lot_quote.specs.Quotes.{AreQuotes, IsBehindQuoteRows, IsBehindQuotes}
use Rattle.lot_quote.specs.declared.place.QuotesPlace.{QuotesPlace}
use Rattle.lot_rows.specs.Tables.{Has, Tables}
use Rattle.lot_rows.specs.declared.price.PriceRow.{PriceRow}
use Rattle.lot_store.specs.Walk.{HasGiven, HasGivenRows}
use Rattle.lot_store.specs.declared.book.Book.{Book}
use Rattle.lot_store.specs.declared.walk.Stage.TheVariants.{Going}
use Rattle.lot_store.specs.declared.walk.Walk.{Walk}
use Rattle.lot_stored.specs.StandFor.{Stands}
use Rattle.lot_walk.proofs.LastLemmas.{AreUp, pairs_total, row_cmp, same_pair, texts_of_pair}
use Rattle.lot_walk.proofs.PriceLemmas.{rows_up}
use Rattle.lot_walk.specs.Prices.{pair_cmp, row_pair}
use Rattle.lot_walk.specs.Step.{HasGivenNone, HasGivenNoRows}

-- ---- the walk before the first

module _ {S : Type 0} (g : Ghosts S) (walk : Walk S QuotesPlace g) (place : QuotesPlace) (book : Book S g) (same : walk.book.now ≡ book)
    (going : walk.stage ≡ Going) (at : walk.place ≡ place) where
  pub begun_quotes : HasGivenNone AreQuotes IsBehindQuotes place tt → (entries : List Entry) → Stands (state g book.conn) entries
      → HasGiven g AreQuotes IsBehindQuotes walk tt entries []
  begun_quotes begun entries stands =
      let there : Stands (state g walk.book.now.conn) entries = subst (λ (b : Book S g). Stands (state g b.conn) entries) (sym same) stands in
      let first = begun there.tables entries there.stand in
      record {
        stands = there;
        prefix = first.0;
        goes_on = going;
        behind = subst (λ (p : QuotesPlace). IsBehindQuotes p there.tables tt entries []) (sym at) first.1;
      }

  pub begun_rows : HasGivenNoRows IsBehindQuoteRows place tt → (tables : Tables) → Has (state g book.conn) tables
      → HasGivenRows g IsBehindQuoteRows walk tt tables []
  begun_rows begun tables has = record {
    has = subst (λ (b : Book S g). Has (state g b.conn) tables) (sym same) has;
    goes_on = going;
    behind = subst (λ (p : QuotesPlace). IsBehindQuoteRows p tables tt []) (sym at) (begun tables);
  }

-- ---- their order

from_less : (a b : ℤ) → int_cmp a b ≡ Less → a ≤ℤ b
from_less a b less = let below : a <ℤ b = int_ranked a b Less (sym less) in grind (arith, ints)

later_day : (a b : PriceRow) → row_cmp a b ≡ Less → is_price_of (a.base, a.quote) b ≡ true → a.day ≤ℤ b.day
later_day a b less is =
    let same : row_pair a ≡ row_pair b = same_pair (row_pair a) (row_pair b) (texts_of_pair a b ∙ is) in
    from_less a.day b.day
    (sym
    (ap (λ (o : Ordering). ordering_then o (int_cmp a.day b.day))
    (ap (λ p. pair_cmp (row_pair a) p) (sym same) ∙ tied_itself pairs_total (row_pair a)))
    ∙ less)

each_later : (row : PriceRow) (rows : List PriceRow) → AllByRecursion (λ (later : PriceRow). row_cmp row later ≡ Less) rows
    → AllByRecursion (λ (later : PriceRow). is_price_of (row.base, row.quote) later ≡ true → row.day ≤ℤ later.day) rows
each_later row [] all = tt
each_later row (next ∷ rows) all = (later_day row next all.0, each_later row rows all.1)

day_order : (rows : List PriceRow) → AreUp rows → AreInDayOrder rows
day_order [] up = tt
day_order (row ∷ rows) up = (each_later row rows up.0, day_order rows up.1)

pub quotes_in_order : (entries : List Entry) (quotes : List PriceRow) → AreQuotes tt entries quotes → AreInDayOrder quotes
quotes_in_order entries quotes (tables, stand, are) = subst AreInDayOrder (sym are) (day_order tables.price (rows_up tables.price stand.ordered.price))
