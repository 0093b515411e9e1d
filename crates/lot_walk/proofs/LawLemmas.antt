-- What a book holds and its prices are one list of rows each.
use Rattle.std.proofs.Common.{◌≡◌, ◌∙◌, ℕ, ℤ, List, Option, Some, None, map, refl, sym, ap}
use Rattle.std.specs.Map.{lookup}
use Rattle.std.specs.Ordering.{int_cmp}
use Rattle.std.specs.Prelude.{◌<ℤ◌}
use Rattle.std.proofs.lemmas.Cmp.{by_ranked, int_ranked}
use Rattle.lot_inv.specs.Inventory.{non_zero}
use Rattle.lot_book.specs.Facts.{Entry, legs_of}
use Rattle.lot_book.specs.Holding.{entry_of, position_of}
use Rattle.lot_book.specs.Leg.{position_cmp, same_position}
use Rattle.lot_book.specs.declared.holding.Holding.{Holding}
use Rattle.lot_book.specs.declared.leg.Position.{Position}
use Rattle.lot_book.proofs.OrderLemmas.{exact_positions, positions_total}
use Rattle.lot_stored.specs.Kept.{rate_on}
use Rattle.lot_stored.specs.StandFor.{sum_in}
use Rattle.lot_laws.proofs.LawHoldings.{holds_sum}
use Rattle.lot_walk.specs.Holdings.{IsHoldings}
use Rattle.lot_walk.specs.Prices.{ArePrices, IsPriceAt, pair_cmp, pair_of, price_in}
use Rattle.lot_walk.specs.declared.price.PairPrice.{PairPrice}
use Rattle.lot_walk.proofs.LastLemmas.{exact_pair, pairs_total}
use Rattle.lot_walk.proofs.LookLemmas.{one_list}

holding_of : Position × ℤ → Holding
holding_of e = record { account = e.0.account; commodity = e.0.commodity; lot = e.0.lot; units = e.1 }

pub one_holdings : (entries : List Entry) (a b : List Holding) → IsHoldings entries a → IsHoldings entries b → a ≡ b
unfolding holding_of
one_holdings entries a b is other =
    one_list position_cmp positions_total exact_positions position_of (λ (h : Holding). h.units) holding_of (λ h. refl) a b is.in_order other.in_order
    (λ position. is.each position ∙ sym (other.each position))

rates_apart : (entries : List Entry) (base quote : List ℕ) (on : ℤ) (rate : ℕ) → rate_on entries base quote on ≡ Some rate → rate_on entries base quote on ≡ None → ⊥
rates_apart entries base quote on rate e none = let no : Some rate ≡ None = sym e ∙ none in cc

pub one_price : (entries : List Entry) (day : ℤ) (pair : List ℕ × List ℕ) (a b : Option ℕ) → IsPriceAt entries day pair a → IsPriceAt entries day pair b → a ≡ b
one_price entries day pair None None is other = refl
one_price entries day pair None (Some rate) is other = absurd (rates_apart entries pair.0 pair.1 other.0 rate other.2 (is other.0 other.1))
one_price entries day pair (Some rate) None is other = absurd (rates_apart entries pair.0 pair.1 is.0 rate is.2 (other is.0 is.1))
one_price entries day pair (Some rate) (Some another) is other =
    by_ranked (is.0 <ℤ other.0) (is.0 ≡ other.0) (other.0 <ℤ is.0) (int_cmp is.0 other.0) (int_ranked is.0 other.0 (int_cmp is.0 other.0) refl)
    (λ e before. absurd (rates_apart entries pair.0 pair.1 other.0 another other.2 (is.3 other.0 before other.1)))
    (λ e same. sym is.2 ∙ ap (rate_on entries pair.0 pair.1) same ∙ other.2)
    (λ e after. absurd (rates_apart entries pair.0 pair.1 is.0 rate is.2 (other.3 is.0 after is.1)))

price_of : (List ℕ × List ℕ) × ℕ → PairPrice
price_of e = record { base = e.0.0; quote = e.0.1; rate = e.1 }

pub one_prices : (entries : List Entry) (day : ℤ) (a b : List PairPrice) → ArePrices entries day a → ArePrices entries day b → a ≡ b
unfolding price_of
one_prices entries day a b is other =
    one_list pair_cmp pairs_total exact_pair pair_of (λ (p : PairPrice). p.rate) price_of (λ p. refl) a b is.in_order other.in_order
    (λ pair. one_price entries day pair (price_in a pair) (price_in b pair) (is.each pair) (other.each pair))

-- what is held at a position is the sum of its legs
pub holding_is_sum : (entries : List Entry) (rows : List Holding) (position : Position) → IsHoldings entries rows
    → lookup (same_position position) (map entry_of rows) ≡ non_zero (sum_in entries position)
holding_is_sum entries rows position is = is.each position ∙ ap non_zero (holds_sum (legs_of entries) position)
