-- The postings of what is bought, sold or taken back (docs/FORMATS.md, Profiles).
use Rattle.std.specs.Prelude.{ℕ, List, [], ◌∷◌, ◌++◌, Option, Some, None, ℤ}
use Rattle.lot_cost.specs.declared.cost.Cost.{Cost}
use Rattle.lot_command.specs.declared.price.Price.{Price}
use Rattle.lot_command.specs.declared.price.Price.TheVariants as Prices
use Rattle.lot_command.specs.declared.transaction.Posting.{Posting}
use Rattle.lot_deal.specs.declared.trade.Cancellation.{Cancellation}
use Rattle.lot_deal.specs.declared.trade.Sale.{Sale}
use Rattle.lot_deal.specs.declared.trade.Trade.{Trade}
use Rattle.lot_deal.specs.declared.trade.TradePrice.{TradePrice}
use Rattle.lot_deal.specs.declared.trade.Worth.{Worth}
use Rattle.lot_deal_command.specs.Cash.{paid_beside}
use Rattle.lot_deal_command.specs.Posting.{any_cost, elided, exchanged, fee_postings, held, plain, unit_cost, whole_cost, whole_price}

-- ---- The units.

-- the currency of a price: that of what the units are worth, else that of the cash
abbrev pub currency_by : Option Worth → List ℕ → List ℕ
currency_by None cash = cash
currency_by (Some worth) cash = worth.currency

-- the cost of what is bought, or was bought on that day: the whole amount, or the price of each
abbrev pub cost_by : Option TradePrice → Trade → Option ℤ → Cost
cost_by None trade day = whole_cost trade.amount trade.currency day
cost_by (Some price) trade day = unit_cost price.rate (currency_by price.worth trade.currency) day

-- what is received for all units, or the price of each
abbrev pub price_by : Option TradePrice → Trade → Price
price_by None trade = whole_price trade.amount trade.currency
price_by (Some price) trade = Prices.Each (record { rate = price.rate; currency = currency_by price.worth trade.currency })

-- units at that cost, whose lot is of that day where one is given
abbrev pub at_cost : Trade → Option ℤ → Posting
at_cost trade day = held trade.invest trade.units trade.symbol (cost_by trade.price trade day) None

-- units of any cost, at what they are sold for
abbrev pub at_price : Trade → Posting
at_price trade = held trade.invest trade.units trade.symbol any_cost (Some (price_by trade.price trade))

-- ---- The cash.

-- the fee beside the price, to its account
abbrev pub price_fee : Option TradePrice → Trade → List Posting
price_fee None trade = []
price_fee (Some price) trade = fee_postings price.fee (currency_by price.worth trade.currency)

-- the amount, or the amount for what the units are worth in another currency
abbrev pub cash_for : Option Worth → Trade → Posting
cash_for None trade = plain trade.cash trade.amount trade.currency
cash_for (Some worth) trade = exchanged trade.cash trade.amount trade.currency worth.amount worth.currency

abbrev pub cash_by : Option TradePrice → Trade → Posting
cash_by None trade = cash_for None trade
cash_by (Some price) trade = cash_for price.worth trade

-- the fees and the cash: one definition for purchases, sales and cancelled purchases
abbrev pub settled : Trade → List Posting
settled trade = price_fee trade.price trade ++ (paid_beside trade.beside ++ cash_by trade.price trade ∷ [])

-- ---- The postings.

-- of a purchase
abbrev pub purchase_postings : Trade → List Posting
purchase_postings trade = at_cost trade None ∷ settled trade

-- of a purchase that is taken back, with its own lot
abbrev pub cancellation_postings : Cancellation → List Posting
cancellation_postings back = at_cost back.trade (Some back.bought) ∷ settled back.trade

-- of a sale
abbrev pub sale_postings : Sale → List Posting
sale_postings sale = at_price sale.trade ∷ (settled sale.trade ++ elided sale.gains ∷ [])
