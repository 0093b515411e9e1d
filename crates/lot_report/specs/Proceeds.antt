-- What priced sales go for in a currency, and what their lots cost there (docs/RULES.md, Gain).
use Rattle.std.specs.Prelude.{ℕ, Bool, false, not, ◌&&◌, List, map, filter, Option, None, Some, ℤ, pos}
use Rattle.std.specs.Map.{lookup}
use Rattle.std.specs.Ordering.{is_eq}
use Rattle.lot_num.specs.Sum.{sum_of}
use Rattle.lot_base.specs.Text.{same_text, text_cmp}
use Rattle.lot_cost.specs.declared.lot_key.LotKey.{LotKey}
use Rattle.lot_command.specs.declared.price.Price.{Price}
use Rattle.lot_book.specs.Gain.{cost_of, currency_of, has_other_currency, proceeds_at}
use Rattle.lot_book.specs.Sale.{SaleParts}

-- whether there is a price in the currency, which is that of all these lots
abbrev pub prices_in : List ℕ → Option Price → List (LotKey × ℤ) → Bool
prices_in currency None legs = false
prices_in currency (Some price) legs = same_text currency (currency_of price) && not (has_other_currency (currency_of price) legs)

abbrev pub is_priced_in : List ℕ → SaleParts → Bool
is_priced_in currency sale = prices_in currency sale.price sale.legs

-- what a sale goes for at a price; nothing without one
abbrev pub proceeds_by : Option Price → SaleParts → ℤ
proceeds_by None sale = pos 0
proceeds_by (Some price) sale = proceeds_at price sale.units sale.legs

-- what all sales that are priced in a currency go for
abbrev pub proceeds_in : List SaleParts → List ℕ → ℤ
proceeds_in sales currency =
    sum_of (map (λ (sale : SaleParts). proceeds_by sale.price sale) (filter (is_priced_in currency) sales))

-- what the lots cost that they take
abbrev pub costs_in : List SaleParts → List ℕ → ℤ
costs_in sales currency = sum_of (map (λ (sale : SaleParts). cost_of sale.legs) (filter (is_priced_in currency) sales))

-- what totals say of a currency
abbrev pub total_in : List (List ℕ × ℤ) → List ℕ → Option ℤ
total_in totals currency = lookup (λ name. is_eq (text_cmp currency name)) totals
