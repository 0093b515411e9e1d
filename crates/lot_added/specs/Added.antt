-- The sales of the entries of a book behind a number of them: of those that a call added, where the book had so many before it
-- (docs/RULES.md, The program).
use Rattle.std.specs.Prelude.{◌≡◌, ℕ, Bool, nat_lt, filter, List, None}
use Rattle.lot_book.specs.Facts.{Entry}
use Rattle.lot_rows.specs.Tables.{Tables}
use Rattle.lot_walk.specs.Gains.{AreAllSaleRows, AreSalesWithin, IsBehindSaleRows, IsBehindSales, Range}
use Rattle.lot_walk.specs.declared.gains.NumberedSale.{NumberedSale}
use Rattle.lot_added.specs.declared.place.AddedPlace.{AddedPlace}

-- ---- the sales

-- entries count from 1
abbrev pub is_added : ℕ → ℕ → Bool
is_added behind entry = nat_lt behind entry

-- those of some sales that are of such entries, in their order
abbrev pub added_of : ℕ → List NumberedSale → List NumberedSale
added_of behind sales = filter (λ (sold : NumberedSale). is_added behind sold.entry) sales

-- the range of all days
abbrev pub all_days : Range
all_days = (None, None)

-- these are the sales of the entries of a book behind that many, all of them
abbrev pub AreAddedSales : ℕ → List Entry → List NumberedSale → Type 0
AreAddedSales behind entries given =
    (sales : List NumberedSale) × AreSalesWithin all_days entries sales × (given ≡ added_of behind sales)

-- they are those of the rows of such entries, whatever the tables stand for
abbrev pub AreAddedSaleRows : ℕ → Tables → List NumberedSale → Type 0
AreAddedSaleRows behind tables given =
    (sales : List NumberedSale) × AreAllSaleRows all_days tables sales × (given ≡ added_of behind sales)

-- ---- the place among them

pub record IsBehindAdded (place : AddedPlace) (tables : Tables) (behind : ℕ) (entries : List Entry) (given : List NumberedSale) : Type 0 where
  pub number : place.behind ≡ behind
  -- the sales that were read
  pub sales : List NumberedSale
  pub read : IsBehindSales place.sales tables all_days entries sales
  pub added : given ≡ added_of behind sales

pub record IsBehindAddedRows (place : AddedPlace) (tables : Tables) (behind : ℕ) (given : List NumberedSale) : Type 0 where
  pub number : place.behind ≡ behind
  pub sales : List NumberedSale
  pub read : IsBehindSaleRows place.sales tables all_days sales
  pub added : given ≡ added_of behind sales
