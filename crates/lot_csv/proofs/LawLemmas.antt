-- The records of a priced sale add up to it.
use Rattle.std.specs.Prelude.{◌≡◌, ◌+◌, ◌-◌, ℕ, ℤ, Bool, true, false, cond, List, [], ◌∷◌, length, map, take, zip, Option, None, Some}
use Rattle.std.proofs.Common.{refl, sym, ap, subst, ◌∙◌, arith}
use Rattle.std.proofs.lemmas.List.{length-append, length-map, length-take-le}
use Rattle.std.proofs.lemmas.Slice.Zip.{firsts-zip, seconds-zip}
use Rattle.lot_num.specs.Sum.{sum_of}
use Rattle.lot_cost.specs.declared.lot_key.LotKey.{LotKey}
use Rattle.lot_command.specs.declared.price.Price.{Price}
use Rattle.lot_command.specs.declared.price.Price.TheVariants as price
use Rattle.lot_book.specs.declared.gain.Gain.{Gain}
use Rattle.lot_book.specs.Gain.{cost_of, currency_of, gain_at, gain_from, gain_of, has_other_currency, proceeds_at, with_opposite_sign}
use Rattle.lot_book.specs.Sale.{AreLegsOf, SaleParts}
use Rattle.lot_csv.specs.Shares.{AddUpTo, SoldLot, gain_in, lot_cost, lot_gain, lot_proceeds, lots_at, lots_in, lots_of, lots_priced, parts_of, shares_of}
use Rattle.lot_csv.specs.declared.shares.LotPrice.TheVariants.{Each, Share}
use Rattle.lot_csv.proofs.SumLemmas.{fused, gains_add_up, rest_completes, signed_shares}

-- each lot gains something, and that adds up to the gain
abbrev pub Adds : ℤ → List SoldLot → Gain → Type 0
Adds units lots gain = (gains : List Gain) × (map (gain_in units) lots ≡ map Some gains) × AddUpTo gains gain

-- ---- a price of each unit

each_adds : (rate : ℕ) (units : ℤ) (legs : List (LotKey × ℤ))
    → Adds units (map (λ (leg : LotKey × ℤ). (leg, Some (Each rate))) legs)
    (gain_from (sum_of (map (λ (leg : LotKey × ℤ). lot_proceeds units leg.1 (Each rate)) legs)) (cost_of legs))
each_adds rate units legs = (
  map (λ (leg : LotKey × ℤ). lot_gain units leg (Each rate)) legs,
  fused (gain_in units) (λ (leg : LotKey × ℤ). (leg, Some (Each rate))) legs
      ∙ sym (fused Some (λ (leg : LotKey × ℤ). lot_gain units leg (Each rate)) legs),
  gains_add_up (λ (leg : LotKey × ℤ). lot_proceeds units leg.1 (Each rate)) lot_cost legs _ _ refl refl,
)

-- ---- a price of all units

pub some_legs : (legs : List (LotKey × ℤ)) (units : ℤ) → AreLegsOf units legs → (first : LotKey × ℤ) × (others : List (LotKey × ℤ)) × (legs ≡ first ∷ others)
some_legs [] units are = absurd (are.some (sym are.sum))
some_legs (first ∷ others) units are = (first, others, refl)

as_many : (total units : ℤ) (first : LotKey × ℤ) (others : List (LotKey × ℤ)) → length (shares_of total units (first ∷ others)) ≡ length (first ∷ others)
as_many total units first others =
    length-append (parts_of total units (take (length (first ∷ others) - 1) (first ∷ others))) _
    ∙ ap (λ n. n + 1) (length-map (take (length (first ∷ others) - 1) (first ∷ others)) _ ∙ length-take-le (length (first ∷ others) - 1) (first ∷ others) (omega arith))
    ∙ omega arith

pub share_for_each : (total : ℤ) (sale : SaleParts) → AreLegsOf sale.units sale.legs → length (shares_of total sale.units sale.legs) ≡ length sale.legs
share_for_each total sale are =
    let (first, others, is) = some_legs sale.legs sale.units are in
    subst (λ legs. length (shares_of total sale.units legs) ≡ length legs) (sym is) (as_many total sale.units first others)

whole_adds : (total units : ℤ) (legs : List (LotKey × ℤ)) → length (shares_of total units legs) ≡ length legs
    → Adds units (map (λ (shared : (LotKey × ℤ) × ℤ). (shared.0, Some (Share shared.1))) (zip legs (shares_of total units legs)))
    (gain_from (with_opposite_sign units total) (cost_of legs))
whole_adds total units legs same =
    let shares = shares_of total units legs in
    let lots = zip legs shares in (
      map (λ (shared : (LotKey × ℤ) × ℤ). lot_gain units shared.0 (Share shared.1)) lots,
      fused (gain_in units) (λ (shared : (LotKey × ℤ) × ℤ). (shared.0, Some (Share shared.1))) lots
          ∙ sym (fused Some (λ (shared : (LotKey × ℤ) × ℤ). lot_gain units shared.0 (Share shared.1)) lots),
      gains_add_up (λ (shared : (LotKey × ℤ) × ℤ). with_opposite_sign units shared.1) (λ (shared : (LotKey × ℤ) × ℤ). lot_cost shared.0) lots _ _
          (ap sum_of (sym (fused (with_opposite_sign units) (λ (shared : (LotKey × ℤ) × ℤ). shared.1) lots)
          ∙ ap (map (with_opposite_sign units)) (seconds-zip legs shares same))
          ∙ signed_shares units shares
          ∙ ap (with_opposite_sign units) (rest_completes total (parts_of total units (take (length legs - 1) legs))))
          (ap sum_of (sym (fused lot_cost (λ (shared : (LotKey × ℤ) × ℤ). shared.0) lots) ∙ ap (map lot_cost) (firsts-zip legs shares same))),
    )

-- ---- a sale

at_price : (price : Price) (sale : SaleParts) → AreLegsOf sale.units sale.legs
    → Adds sale.units (lots_at price sale) (gain_from (proceeds_at price sale.units sale.legs) (cost_of sale.legs))
at_price (price.Each each) sale are = each_adds each.rate sale.units sale.legs
at_price (price.Whole whole) sale are = whole_adds whole.0 sale.units sale.legs (share_for_each whole.0 sale are)

unless_other : (other : Bool) (found gain : Gain) → cond other None (Some found) ≡ Some gain → found ≡ gain
unless_other true found gain is = cc
unless_other false found gain is = cc

adds_at : (price : Option Price) (sale : SaleParts) (gain : Gain) → AreLegsOf sale.units sale.legs → gain_at price sale ≡ Some gain
    → Adds sale.units (lots_priced price sale) gain
adds_at None sale gain are is = cc
adds_at (Some price) sale gain are is =
    subst (Adds sale.units (lots_at price sale)) (unless_other (has_other_currency (currency_of price) sale.legs) _ gain is) (at_price price sale are)

pub records_add_up : (sale : SaleParts) (gain : Gain) → AreLegsOf sale.units sale.legs → gain_of sale ≡ Some gain
    → Adds sale.units (lots_of sale) gain
records_add_up sale gain are is =
    subst (λ (found : Option Gain). Adds sale.units (lots_in found sale) gain) (sym is) (adds_at sale.price sale gain are is)
