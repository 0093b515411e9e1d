-- The amount of a sale, and of a holding.
use Rattle.std.proofs.Common.{◌≡◌, ℕ, List, [], ◌∷◌, map, sym, ap, ◌∙◌, subst}
use Rattle.std.specs.Prelude.{OnOk, Option, Some, Result, ℤ}
use Rattle.lot_book.specs.Sale.{SaleParts}
use Rattle.lot_book.specs.declared.gain.Gain.{Gain}
use Rattle.lot_report.specs.Gains.{amounts_in, gained}
use Rattle.lot_compare.specs.Amounts.{year_amounts, year_text}
use Rattle.lot_compare.specs.Sums.{AddsAmounts, Amount}
use Rattle.lot_compare.specs.declared.subject.Subject.{Subject}
use Rattle.lot_compare.specs.declared.sums.Side.{Side}
use Rattle.lot_compare.specs.declared.sums.Sides.{Sides}

-- the same amount, from its pieces
pub adds_same : {E : Type 0} (result : Result (Unit {0}) E) (side : Side) (before after : List (Subject × Sides)) (what w commodity c : List ℕ) (units u : ℤ)
    → what ≡ w → commodity ≡ c → units ≡ u
    → OnOk result (AddsAmounts side ((record { what = what; commodity = commodity }, units) ∷ []) before after)
    → OnOk result (AddsAmounts side ((record { what = w; commodity = c }, u) ∷ []) before after)
adds_same result side before after what w commodity c units u same_what same_commodity same_units adds =
    subst (λ (amount : Amount). OnOk result (AddsAmounts side (amount ∷ []) before after))
    (λ i. (record { what = same_what i; commodity = same_commodity i }, same_units i)) adds

-- the amount of a priced sale
pub one_amount : (sale : SaleParts) (currency : List ℕ) (gain : Gain) (day : ℤ) → gained sale ≡ Some (currency, gain) → day ≡ sale.day
    → year_amounts sale ≡ (record { what = year_text day; commodity = currency }, gain.gain) ∷ []
one_amount sale currency gain day is same =
    ap (λ (found : Option (List ℕ × Gain)).
    map (λ (amount : List ℕ × ℤ). (record { what = year_text sale.day; commodity = amount.0 }, amount.1)) (amounts_in found)) is
    ∙ ap (λ (d : ℤ). (record { what = year_text d; commodity = currency }, gain.gain) ∷ []) (sym same)
