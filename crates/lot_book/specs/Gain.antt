-- The gain of a sale: its proceeds less the cost of the lots that it takes away (docs/RULES.md, Gain).
use Rattle.std.specs.Prelude.{◌≡◌, ℕ, Bool, not, if◌then◌else◌, List, map, Option, None, Some, ℤ, pos, ◌-ℤ◌, ◌*ℤ◌, neg_ℤ, int_lt}
use Rattle.std.specs.List.{AllByRecursion, list_any}
use Rattle.lot_num.specs.Amount.{one}
use Rattle.lot_num.specs.Sum.{sum_of}
use Rattle.lot_base.specs.Text.{same_text}
use Rattle.lot_cost.specs.declared.lot_key.LotKey.{LotKey}
use Rattle.lot_command.specs.declared.price.Price.{Price}
use Rattle.lot_command.specs.declared.price.Price.TheVariants.{Each, Whole}
use Rattle.lot_book.specs.declared.gain.Gain.{Gain}
use Rattle.lot_book.specs.Sale.{SaleParts}

-- ---- which sales have a gain

abbrev pub currency_of : Price → List ℕ
currency_of (Each price) = price.currency
currency_of (Whole price) = price.1

-- whether the lot of some leg has another currency
abbrev pub has_other_currency : List ℕ → List (LotKey × ℤ) → Bool
has_other_currency currency legs = list_any (λ (leg : LotKey × ℤ). not (same_text currency leg.0.currency)) legs

-- ---- proceeds, cost and gain, at scale 16

-- a total with the opposite sign of units
abbrev pub with_opposite_sign : ℤ → ℤ → ℤ
with_opposite_sign units total = if int_lt units (pos 0) then total *ℤ pos one else neg_ℤ (total *ℤ pos one)

-- what units with these legs go for: over the legs, their units with the sign turned, each at the price; or the whole
-- price with the opposite sign of the units
abbrev pub proceeds_at : Price → ℤ → List (LotKey × ℤ) → ℤ
proceeds_at (Each price) units legs = sum_of (map (λ (leg : LotKey × ℤ). neg_ℤ leg.1 *ℤ pos price.rate) legs)
proceeds_at (Whole price) units legs = with_opposite_sign units price.0

-- what the lots cost: over the legs, their units with the sign turned, each at the number of its lot
abbrev pub cost_of : List (LotKey × ℤ) → ℤ
cost_of legs = sum_of (map (λ (leg : LotKey × ℤ). neg_ℤ leg.1 *ℤ pos leg.0.number) legs)

abbrev pub gain_from : ℤ → ℤ → Gain
gain_from proceeds cost = record { proceeds = proceeds; cost = cost; gain = proceeds -ℤ cost }

abbrev pub gain_at : Option Price → SaleParts → Option Gain
gain_at None sale = None
gain_at (Some price) sale =
    if has_other_currency (currency_of price) sale.legs then None
    else Some (gain_from (proceeds_at price sale.units sale.legs) (cost_of sale.legs))

-- the gain of a sale; none where it is unpriced: it has no price, or the lot of some leg has another currency than the price
abbrev pub gain_of : SaleParts → Option Gain
gain_of sale = gain_at sale.price sale

-- ---- laws

-- a sale is priced: it has a price in the currency of all its lots
abbrev pub IsPriced : Option Price → List (LotKey × ℤ) → Type 0
IsPriced None legs = ⊥
IsPriced (Some price) legs = AllByRecursion (λ (leg : LotKey × ℤ). leg.0.currency ≡ currency_of price) legs
