-- Which sales have a gain, and what it is; reductions are sales.
use Rattle.std.specs.Prelude.{◌≡◌, ◌≢◌, ◌↔◌, ℕ, Bool, true, false, not, nat_eq, List, [], ◌∷◌, Option, None, Some, ℤ, pos, ◌-ℤ◌, ◌*ℤ◌, neg_ℤ}
use Rattle.std.specs.List.{AllByRecursion, list_all}
use Rattle.std.specs.Option.{IsSome}
use Rattle.std.proofs.Common.{inl, inr, refl, sym, ap, ◌∙◌, arith}
use Rattle.std.proofs.lemmas.Bool.{cases_Bool, or_parts}
use Rattle.std.proofs.lemmas.Int.{ints}
use Rattle.std.proofs.lemmas.Bool.Decides.{nat_tests}
use Rattle.lot_base.specs.Text.{same_text}
use Rattle.lot_base.proofs.TextLemmas.{one_text, same_text-itself}
use Rattle.lot_cost.specs.declared.lot_key.LotKey.{LotKey}
use Rattle.lot_booking.specs.Booking.{Braced, ComesTo, Legs}
use Rattle.lot_booking.specs.Choice.{Choice, chosen_legs, with_sign_of}
use Rattle.lot_booking.proofs.BookingLaws.{units_of_legs}
use Rattle.lot_command.specs.declared.price.Price.{Price}
use Rattle.lot_command.specs.declared.price.Price.TheVariants.{Each}
use Rattle.lot_command.specs.declared.price.UnitPrice.{UnitPrice}
use Rattle.lot_book.specs.declared.gain.Gain.{Gain}
use Rattle.lot_book.specs.Gain.{IsPriced, cost_of, currency_of, gain_at, gain_from, gain_of, has_other_currency, proceeds_at}
use Rattle.lot_book.specs.Sale.{AreLegsOf, SaleParts, same_sign}
use Rattle.lot_book.proofs.GainLemmas.{proceeds_each}

-- ---- reductions

has_sign : (units : ℤ) (amount : ℕ) → units ≢ pos 0 → nat_eq amount 0 ≡ false → same_sign units (with_sign_of units amount) ≡ true
has_sign units amount some none = grind (arith, ints, nat_tests)

chosen_signs : (units : ℤ) (choice : Choice) (lots : List (LotKey × ℤ)) → units ≢ pos 0
    → list_all (λ (leg : LotKey × ℤ). same_sign units leg.1) (chosen_legs units choice lots) ≡ true
chosen_signs units choice [] some = refl
chosen_signs units choice (lot ∷ lots) some =
    let rest = chosen_signs units choice lots some in
    elim (cases_Bool (nat_eq (choice lot.0) 0)) [
      | inl none ↦ rw none rest
      | inr more ↦ rw more (rw (has_sign units (choice lot.0) some more) rest)
    ]

pub a_reduction_makes_a_sale : (posting : Braced) (legs : List (LotKey × ℤ)) → ComesTo posting (Legs true legs)
    → AreLegsOf posting.units legs
a_reduction_makes_a_sale posting legs comes =
    let some = comes.0.0 in
    let taken = comes.1 in
    record {
      some = some;
      signs = rw taken.chosen (chosen_signs posting.units taken.choice taken.listed some);
      sum = units_of_legs posting true legs comes;
    }

-- ---- which sales have a gain

in_currency : (currency : List ℕ) (legs : List (LotKey × ℤ)) → has_other_currency currency legs ≡ false
    → AllByRecursion (λ (leg : LotKey × ℤ). leg.0.currency ≡ currency) legs
in_currency currency [] none = tt
in_currency currency (leg ∷ legs) none =
    let parts = or_parts (not (same_text currency leg.0.currency)) (has_other_currency currency legs) none in
    (sym (one_text currency leg.0.currency (same (same_text currency leg.0.currency) parts.0)), in_currency currency legs parts.1)
  where
    same : (b : Bool) → not b ≡ false → b ≡ true
    same true e = refl
    same false e = absurd cc

has_none : (currency : List ℕ) (legs : List (LotKey × ℤ)) → AllByRecursion (λ (leg : LotKey × ℤ). leg.0.currency ≡ currency) legs
    → has_other_currency currency legs ≡ false
has_none currency [] all = refl
has_none currency (leg ∷ legs) all =
    let same : same_text currency leg.0.currency ≡ true = ap (same_text currency) all.0 ∙ same_text-itself currency in
    rw same (has_none currency legs all.1)

priced : (price : Option Price) (sale : SaleParts) → IsSome (gain_at price sale) ↔ IsPriced price sale.legs
priced None sale = (λ e. cc, λ none. absurd none)
priced (Some price) sale = elim (cases_Bool (has_other_currency (currency_of price) sale.legs)) [
  | inl other ↦ rw other (λ e. cc, λ all. let none = has_none (currency_of price) sale.legs all in cc)
  | inr none ↦ rw none (λ e. in_currency (currency_of price) sale.legs none, λ all. refl)
]

pub priced_sales_have_a_gain : (sale : SaleParts) → IsSome (gain_of sale) ↔ IsPriced sale.price sale.legs
priced_sales_have_a_gain sale = priced sale.price sale

-- ---- what a gain is

pub the_gain : (price : Price) (sale : SaleParts) (gain : Gain) → gain_at (Some price) sale ≡ Some gain
    → gain_from (proceeds_at price sale.units sale.legs) (cost_of sale.legs) ≡ gain
the_gain price sale gain is = elim (cases_Bool (has_other_currency (currency_of price) sale.legs)) [
  | inl other ↦ let none = rw other at is in absurd cc
  | inr none ↦ let some = rw none at is in cc
]

less_cost : (price : Option Price) (sale : SaleParts) (gain : Gain) → gain_at price sale ≡ Some gain
    → gain.gain ≡ gain.proceeds -ℤ gain.cost
less_cost None sale gain is = absurd cc
less_cost (Some price) sale gain is = rw (← the_gain price sale gain is) refl

pub a_gain_is_proceeds_less_cost : (sale : SaleParts) (gain : Gain) → gain_of sale ≡ Some gain
    → gain.gain ≡ gain.proceeds -ℤ gain.cost
a_gain_is_proceeds_less_cost sale gain is = less_cost sale.price sale gain is

pub proceeds_are_of_all_units : (sale : SaleParts) (price : UnitPrice) (gain : Gain) → AreLegsOf sale.units sale.legs
    → sale.price ≡ Some (Each price) → gain_of sale ≡ Some gain → gain.proceeds ≡ neg_ℤ sale.units *ℤ pos price.rate
proceeds_are_of_all_units sale price gain legs priced is =
    let found = ap (λ p. gain_at p sale) (sym priced) ∙ is in
    sym (ap (λ (g : Gain). g.proceeds) (the_gain (Each price) sale gain found))
    ∙ proceeds_each price.rate sale.legs
    ∙ ap (λ z. neg_ℤ z *ℤ pos price.rate) legs.sum
