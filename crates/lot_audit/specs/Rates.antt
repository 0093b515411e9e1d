-- The last rates that the entries of a book quoted.
use Rattle.std.specs.Prelude.{◌≡◌, ℕ, ℤ, List, Option, option_map}
use Rattle.std.specs.BTreeMap.{get}
use Rattle.std.specs.Ordering.{int_cmp, ordering_then}
use Rattle.std.specs.declared.cmp.Ordering.{Ordering}
use Rattle.lot_base.specs.Text.{text_cmp}
use Rattle.lot_book.specs.Facts.{Entry}
use Rattle.lot_rows.specs.declared.price.PriceRow.{PriceRow}
use Rattle.lot_stored.specs.Kept.{rate_on}
use Rattle.lot_stored.specs.Rows.{price_row}
use Rattle.lot_audit.specs.declared.rates.PriceKey.{PriceKey}
use Rattle.lot_audit.specs.declared.rates.Rates.{Rates}

-- the order of pairs and days: by the bytes of base and quote, then by the day
abbrev pub price_cmp : PriceKey → PriceKey → Ordering
price_cmp p q =
    ordering_then (text_cmp p.base q.base)
    (ordering_then (text_cmp p.quote q.quote) (int_cmp p.day q.day))

-- the rate that is kept of a pair on a day
abbrev pub rate_in : Rates → List ℕ → List ℕ → ℤ → Option ℕ
rate_in rates base quote day =
    get price_cmp rates.rates (record { base = base; quote = quote; day = day })

-- the rates of a book: the last one of each pair on each day
abbrev pub KeepsRates : Rates → List Entry → Type 0
KeepsRates rates entries = (base quote : List ℕ) (day : ℤ)
    → rate_in rates base quote day ≡ rate_on entries base quote day

-- the row of a pair and a day
abbrev pub price_told : Rates → List ℕ → List ℕ → ℤ → Option PriceRow
price_told rates base quote day =
    option_map (price_row base quote day) (rate_in rates base quote day)
