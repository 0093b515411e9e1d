-- What a transaction weighs, its residuals, and the fill (after Beancount's Language Syntax).
use Rattle.std.specs.Prelude.{ℕ, suc, ◌*◌, ◌%◌, ◌≤◌, ◌==◌, ◌&&◌, Bool, not, nat_lt, if◌then◌else◌, List, [], ◌∷◌, map, filter, flat_map, Option, None, Some, ℤ, pos, ◌+ℤ◌, ◌*ℤ◌, neg_ℤ, int_div, int_lt, unsigned_abs}
use Rattle.std.specs.Ordering.{int_eq}
use Rattle.std.specs.List.{AllByRecursion}
use Rattle.std.specs.Map.{lookup}
use Rattle.std.specs.Option.{is_none, unwrap_or}
use Rattle.lot_num.specs.Amount.{one, rate_limit, units_limit}
use Rattle.lot_cost.specs.declared.lot_key.LotKey.{LotKey}
use Rattle.lot_cost.specs.declared.cost.Cost.{Cost}
use Rattle.lot_command.specs.declared.price.Price.{Price}
use Rattle.lot_command.specs.declared.price.Price.TheVariants.{Each, Whole}
use Rattle.lot_command.specs.declared.transaction.Posting.{Posting}
use Rattle.lot_command.specs.declared.transaction.Amount.{Amount}
use Rattle.lot_book.specs.declared.leg.Leg.{Leg}
use Rattle.lot_base.specs.Text.{same_text}
use Rattle.lot_book.specs.Booking.{Booked}
use Rattle.lot_book.specs.Currencies.{sum_in, first_appearances}
use Rattle.lot_book.specs.Leg.{leg_at}

-- ---- Weights.

-- where a leg weighs, and how much: in a lot, units times the lot's number in its currency; else the units themselves
abbrev pub weight_in : List ℕ → ℤ → Option LotKey → List ℕ × ℤ
weight_in commodity units None = (commodity, units *ℤ pos one)
weight_in commodity units (Some lot) = (lot.currency, units *ℤ pos lot.number)

abbrev pub weight_of : Leg → List ℕ × ℤ
weight_of leg = weight_in leg.position.commodity leg.units leg.position.lot

-- a total, at scale 16, with the sign of the units; zero for zero units
abbrev pub with_sign : ℤ → ℤ → ℤ
with_sign units total =
    if int_eq units (pos 0) then pos 0 else (if int_lt units (pos 0) then neg_ℤ (total *ℤ pos one) else total *ℤ pos one)

-- what units weigh at their price: units times the rate, or the total with the sign of the units; without one, the units
-- themselves
abbrev pub weight_at_price : List ℕ → ℤ → Option Price → List ℕ × ℤ
weight_at_price commodity units None = (commodity, units *ℤ pos one)
weight_at_price commodity units (Some (Each price)) = (price.currency, units *ℤ pos price.rate)
weight_at_price commodity units (Some (Whole price)) = (price.1, with_sign units price.0)

-- the weights of a posting: with braces those of its legs, whatever its price
abbrev pub weights_by : Option Cost → Amount → List Leg → List (List ℕ × ℤ)
weights_by None amount legs = weight_at_price amount.commodity amount.units amount.price ∷ []
weights_by (Some cost) amount legs = map weight_of legs

abbrev pub weights_of : Booked → List (List ℕ × ℤ)
weights_of booked = weights_by booked.amount.cost booked.amount booked.legs

-- the weights of all postings with amounts, in their order
abbrev pub weights_in : List Booked → List (List ℕ × ℤ)
weights_in booked = flat_map weights_of booked

-- ---- Residuals.

-- the currencies in which something weighs, in the order in which they first appear
abbrev pub currencies : List (List ℕ × ℤ) → List (List ℕ)
currencies weights = first_appearances (map (λ (w : List ℕ × ℤ). w.0) weights)

-- each currency beside its residual, the sum of the weights in it
abbrev pub residuals : List (List ℕ × ℤ) → List (List ℕ × ℤ)
residuals weights = map (λ (currency : List ℕ). (currency, sum_in weights currency)) (currencies weights)

-- residuals once one more weight is added: in place, or behind the others where its currency is new
abbrev pub add_weight : List (List ℕ × ℤ) → List ℕ × ℤ → List (List ℕ × ℤ)
add_weight [] w = w ∷ []
add_weight (r ∷ rs) w = if same_text w.0 r.0 then (r.0, r.1 +ℤ w.1) ∷ rs else r ∷ add_weight rs w

-- the residual of a currency, zero where the currency doesn't appear
abbrev pub residual_in : List ℕ → List (List ℕ × ℤ) → ℤ
residual_in currency rs = unwrap_or (lookup (same_text currency) rs) (pos 0)

-- Each residual is at most what so many postings can weigh. A posting moves fewer units than their limit, however many legs it
-- has, and each unit weighs less than the limit of rates.
abbrev pub AreWithin : ℕ → List (List ℕ × ℤ) → Type 0
AreWithin count rs = AllByRecursion (λ (r : List ℕ × ℤ). unsigned_abs r.1 ≤ count * units_limit * rate_limit) rs

-- whether a weight is that of so many units: it has no decimal past the eighth, and the units are in range
abbrev pub fits_units : ℤ → Bool
fits_units z = (unsigned_abs z % one == 0) && nat_lt (unsigned_abs z) (units_limit * one)

abbrev pub is_zero : ℤ → Bool
is_zero z = int_eq z (pos 0)

-- the residuals that aren't zero
abbrev pub left_over : List (List ℕ × ℤ) → List (List ℕ × ℤ)
left_over rs = filter (λ (r : List ℕ × ℤ). not (is_zero r.1)) rs

-- ---- The fill: what the elided posting, which has no amount, takes.

-- the places, counted on from that of the first posting, and the accounts of the elided postings
abbrev pub elided_postings : ℕ → List Posting → List (ℕ × List ℕ)
elided_postings place [] = []
elided_postings place (posting ∷ postings) =
    if is_none posting.amount then (place, posting.account) ∷ elided_postings (suc place) postings
    else elided_postings (suc place) postings

-- the units that take up a residual: its opposite
abbrev pub opposite : ℤ → ℤ
opposite z = neg_ℤ (int_div z (pos one))

-- each residual becomes one plain leg, numbered on from that place
abbrev pub fill_from : ℕ → ℕ → List ℕ → ℕ → List (List ℕ × ℤ) → List Leg
fill_from entry posting account place [] = []
fill_from entry posting account place (r ∷ rs) =
    leg_at entry posting place account r.0 None (opposite r.1) ∷ fill_from entry posting account (suc place) rs

-- the legs of the elided posting, if there is one
abbrev pub fill_of : ℕ → List (ℕ × List ℕ) → List (List ℕ × ℤ) → List Leg
fill_of entry [] rs = []
fill_of entry (elided ∷ more) rs = fill_from entry elided.0 elided.1 0 (left_over rs)
