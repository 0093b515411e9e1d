-- The walk over the sales of a book on the days of a range, each with its legs (docs/RULES.md, Gain).
use Rattle.std.specs.Prelude.{◌≡◌, ℕ, ℤ, ◌&&◌, Bool, true, not, int_lt, filter, List, [], ◌++◌, map, Option, None, Some}
use Rattle.lot_cost.specs.declared.lot_key.LotKey.{LotKey}
use Rattle.lot_book.specs.Book.{IsBook}
use Rattle.lot_book.specs.Edition.{After}
use Rattle.lot_book.specs.Facts.{Entry}
use Rattle.lot_book.specs.Leg.{legs_at_lots}
use Rattle.lot_book.specs.Sale.{AreLegsOf, SaleParts}
use Rattle.lot_book.specs.declared.leg.Leg.{Leg}
use Rattle.lot_rows.specs.Sale.{sale_cells}
use Rattle.lot_rows.specs.Tables.{Tables}
use Rattle.lot_rows.specs.declared.leg.LegRow.{LegRow}
use Rattle.lot_rows.specs.declared.sale.SaleRow.{SaleRow}
use Rattle.lot_page.specs.Cursor.{IsBehind}
use Rattle.lot_stored.specs.Kept.{SalesOf, legs_of_posting}
use Rattle.lot_stored.specs.Rows.{sale_row}
use Rattle.lot_walk.specs.declared.gains.GainsPlace.{GainsPlace}
use Rattle.lot_walk.specs.declared.gains.NumberedSale.{NumberedSale}

-- ---- the days

-- the first day and the last, which both belong to the range; without one that end is open
abbrev pub Range : Type 0
Range = Option ℤ × Option ℤ

abbrev pub is_from : Option ℤ → ℤ → Bool
is_from None day = true
is_from (Some first) day = not (int_lt day first)

abbrev pub is_up_to : Option ℤ → ℤ → Bool
is_up_to None day = true
is_up_to (Some last) day = not (int_lt last day)

abbrev pub is_within : Range → ℤ → Bool
is_within range day = is_from range.0 day && is_up_to range.1 day

-- ---- the sales

-- a sale with the number of its entry and the place of its posting
abbrev pub numbered_sale : ℕ × (ℕ × SaleParts) → NumberedSale
numbered_sale sold = record { entry = sold.0; posting = sold.1.0; sale = sold.1.1 }

-- those of a range, in their order
abbrev pub sold_within : Range → List (ℕ × (ℕ × SaleParts)) → List NumberedSale
sold_within range sales = filter (λ (sold : NumberedSale). is_within range sold.sale.day) (map numbered_sale sales)

-- these are the sales of a book on the days of a range, all of them
abbrev pub AreSalesWithin : Range → List Entry → List NumberedSale → Type 0
AreSalesWithin range entries given =
    (book : IsBook entries) × (sales : List (ℕ × (ℕ × SaleParts))) × SalesOf (After book.place) entries sales
    × (given ≡ sold_within range sales)

-- the units of a sale are those of its legs
abbrev pub HasLegs : NumberedSale → Type 0
HasLegs sold = AreLegsOf sold.sale.units sold.sale.legs

-- the legs of the posting of a sale are those of the sale, at its lots
abbrev pub HasItsLegs : List Leg → ℕ × (ℕ × SaleParts) → Type 0
HasItsLegs legs sold =
    AreLegsOf sold.1.1.units sold.1.1.legs
    × (legs_of_posting sold.0 sold.1.0 legs ≡ legs_at_lots sold.0 sold.1.0 sold.1.1.account sold.1.1.commodity 0 sold.1.1.legs)

-- ---- the place among them

pub record IsBehindSales (place : GainsPlace) (tables : Tables) (range : Range) (entries : List Entry) (given : List NumberedSale) : Type 0 where
  pub first : place.first ≡ range.0
  pub last : place.last ≡ range.1
  pub book : IsBook entries
  -- those that were read, and the others
  pub sold : List (ℕ × (ℕ × SaleParts))
  pub others : List (ℕ × (ℕ × SaleParts))
  pub of_book : SalesOf (After book.place) entries (sold ++ others)
  pub rows : tables.sale ≡ map sale_row (sold ++ others)
  pub read : IsBehind sale_cells (map sale_row sold) tables.sale place.cursor
  pub within : given ≡ sold_within range sold

-- ---- the legs of one sale

-- what the row of a leg takes of a lot, and what a leg of a sale is
abbrev pub taken : LegRow → Option LotKey × ℤ
taken row = (row.lot, row.units)

abbrev pub at_lot : LotKey × ℤ → Option LotKey × ℤ
at_lot leg = (Some leg.0, leg.1)

abbrev pub sale_with : SaleRow → List (LotKey × ℤ) → SaleParts
sale_with row legs = record { day = row.day; account = row.account; commodity = row.commodity; units = row.units; price = row.price; legs = legs }

-- ---- the rows of the table, whatever it stands for

-- what a row says of its sale, all but the legs
abbrev pub sale_of_row : SaleRow → NumberedSale
sale_of_row row = record { entry = row.entry; posting = row.posting; sale = sale_with row [] }

abbrev pub without_legs : NumberedSale → NumberedSale
without_legs sold = record sold { sale = record sold.sale { legs = [] } }

abbrev pub rows_within : Range → List SaleRow → List SaleRow
rows_within range rows = filter (λ (row : SaleRow). is_within range row.day) rows

-- these are the sales of the rows on the days of a range, all of them, whatever their legs
abbrev pub AreAllSaleRows : Range → Tables → List NumberedSale → Type 0
AreAllSaleRows range tables given = map without_legs given ≡ map sale_of_row (rows_within range tables.sale)

pub record IsBehindSaleRows (place : GainsPlace) (tables : Tables) (range : Range) (given : List NumberedSale) : Type 0 where
  pub first : place.first ≡ range.0
  pub last : place.last ≡ range.1
  -- the rows that were read
  pub rows : List SaleRow
  pub read : IsBehind sale_cells rows tables.sale place.cursor
  pub within : map without_legs given ≡ map sale_of_row (rows_within range rows)
