-- The total gain in a currency is the proceeds there less the costs.
use Rattle.std.specs.Prelude.{◌≡◌, ℕ, Bool, true, false, not, cond, if◌then◌else◌, ◌&&◌, ◌||◌, List, [], ◌∷◌, Option, None, Some, option_map, ℤ, pos, ◌+ℤ◌, ◌-ℤ◌}
use Rattle.std.specs.List.{list_any}
use Rattle.std.proofs.Common.{refl, sym, ap, ◌∙◌, arith}
use Rattle.std.proofs.Math.IntN.{+ℤ_idr}
use Rattle.std.proofs.lemmas.Int.{ints}
use Rattle.std.proofs.lemmas.List.Folds.{list_any-append}
use Rattle.lot_base.specs.Text.{same_text}
use Rattle.lot_command.specs.declared.price.Price.{Price}
use Rattle.lot_book.specs.declared.gain.Gain.{Gain}
use Rattle.lot_book.specs.Currencies.{sum_in}
use Rattle.lot_book.specs.Gain.{cost_of, currency_of, gain_at, gain_from, gain_of, has_other_currency, proceeds_at}
use Rattle.lot_book.specs.Sale.{SaleParts}
use Rattle.lot_book.proofs.SumLemmas.{sum_in-append, sum_in-cons, sum_where-cons}
use Rattle.lot_report.specs.Gains.{amounts_in, amounts_of, gained, gained_at}
use Rattle.lot_report.specs.Proceeds.{costs_in, is_priced_in, prices_in, proceeds_by, proceeds_in, total_in}
use Rattle.lot_report.specs.Report.{AreSums, is_named}

-- ---- One sale.

-- a gain beside its currency, where the lots have no other
abbrev amounts_unless : Bool → List ℕ → Gain → List (List ℕ × ℤ)
amounts_unless other own gain = amounts_in (option_map (λ (g : Gain). (own, g)) (if other then None else Some gain))

one_amount : (here : Bool) (z : ℤ) → cond here (z +ℤ pos 0) (pos 0) ≡ cond (here && true) z (pos 0)
one_amount true z = +ℤ_idr z
one_amount false z = refl

no_amount : (here : Bool) (z : ℤ) → pos 0 ≡ cond (here && false) z (pos 0)
no_amount true z = refl
no_amount false z = refl

sum_unless : (other : Bool) (currency own : List ℕ) (gain : Gain)
    → sum_in (amounts_unless other own gain) currency ≡ cond (same_text currency own && not other) gain.gain (pos 0)
sum_unless true currency own gain = no_amount (same_text currency own) gain.gain
sum_unless false currency own gain =
    sum_in-cons (own, gain.gain) [] currency ∙ one_amount (same_text currency own) gain.gain

one_gain : (price : Option Price) (sale : SaleParts) (currency : List ℕ) → gain_of sale ≡ gain_at price sale
    → sum_in (amounts_in (gained_at price sale)) currency
    ≡ cond (prices_in currency price sale.legs) (proceeds_by price sale -ℤ cost_of sale.legs) (pos 0)
one_gain None sale currency is = refl
one_gain (Some price) sale currency is =
    let own = currency_of price in
    ap (λ (found : Option Gain). sum_in (amounts_in (option_map (λ (g : Gain). (own, g)) found)) currency) is
    ∙ sum_unless (has_other_currency own sale.legs) currency own (gain_from (proceeds_at price sale.units sale.legs) (cost_of sale.legs))

-- whether it counts for the total in a currency
named_one : (here : Bool) → (here || false) ≡ (here && true)
named_one true = refl
named_one false = refl

named_none : (here : Bool) → false ≡ (here && false)
named_none true = refl
named_none false = refl

named_unless : (other : Bool) (currency own : List ℕ) (gain : Gain)
    → is_named currency (amounts_unless other own gain) ≡ (same_text currency own && not other)
named_unless true currency own gain = named_none (same_text currency own)
named_unless false currency own gain = named_one (same_text currency own)

one_named : (price : Option Price) (sale : SaleParts) (currency : List ℕ) → gain_of sale ≡ gain_at price sale
    → is_named currency (amounts_in (gained_at price sale)) ≡ prices_in currency price sale.legs
one_named None sale currency is = refl
one_named (Some price) sale currency is =
    let own = currency_of price in
    ap (λ (found : Option Gain). is_named currency (amounts_in (option_map (λ (g : Gain). (own, g)) found))) is
    ∙ named_unless (has_other_currency own sale.legs) currency own (gain_from (proceeds_at price sale.units sale.legs) (cost_of sale.legs))

-- ---- All sales.

less_more : (here : Bool) (proceeds cost all_proceeds all_costs : ℤ)
    → cond here (proceeds -ℤ cost) (pos 0) +ℤ (all_proceeds -ℤ all_costs)
    ≡ cond here (proceeds +ℤ all_proceeds) all_proceeds -ℤ cond here (cost +ℤ all_costs) all_costs
less_more true proceeds cost all_proceeds all_costs = omega (arith, ints)
less_more false proceeds cost all_proceeds all_costs = omega (arith, ints)

gains_sum : (sales : List SaleParts) (currency : List ℕ)
    → sum_in (amounts_of sales) currency ≡ proceeds_in sales currency -ℤ costs_in sales currency
gains_sum [] currency = refl
gains_sum (sale ∷ sales) currency =
    let here = is_priced_in currency sale in
    let proceeds = proceeds_by sale.price sale in
    let cost = cost_of sale.legs in
    sum_in-append (amounts_in (gained sale)) (amounts_of sales) currency
    ∙ ap (λ z. z +ℤ sum_in (amounts_of sales) currency) (one_gain sale.price sale currency refl)
    ∙ ap (λ z. cond here (proceeds -ℤ cost) (pos 0) +ℤ z) (gains_sum sales currency)
    ∙ less_more here proceeds cost (proceeds_in sales currency) (costs_in sales currency)
    ∙ ap (λ z. z -ℤ cond here (cost +ℤ costs_in sales currency) (costs_in sales currency))
    (sym (sum_where-cons (is_priced_in currency) (λ (s : SaleParts). proceeds_by s.price s) sale sales))
    ∙ ap (λ z. proceeds_in (sale ∷ sales) currency -ℤ z)
    (sym (sum_where-cons (is_priced_in currency) (λ (s : SaleParts). cost_of s.legs) sale sales))

gains_named : (sales : List SaleParts) (currency : List ℕ)
    → is_named currency (amounts_of sales) ≡ list_any (is_priced_in currency) sales
gains_named [] currency = refl
gains_named (sale ∷ sales) currency =
    list_any-append (λ (amount : List ℕ × ℤ). same_text currency amount.0) (amounts_in (gained sale)) (amounts_of sales)
    ∙ ap (λ b. b || is_named currency (amounts_of sales)) (one_named sale.price sale currency refl)
    ∙ ap (λ b. is_priced_in currency sale || b) (gains_named sales currency)

pub total_is_proceeds_less_costs : (sales : List SaleParts) (totals : List (List ℕ × ℤ)) (currency : List ℕ) → AreSums (amounts_of sales) totals
    → total_in totals currency
    ≡ (if list_any (is_priced_in currency) sales then Some (proceeds_in sales currency -ℤ costs_in sales currency) else None)
total_is_proceeds_less_costs sales totals currency sums =
    sums.each currency
    ∙ ap (λ b. if b then Some (sum_in (amounts_of sales) currency) else None) (gains_named sales currency)
    ∙ ap (λ z. if list_any (is_priced_in currency) sales then Some z else None) (gains_sum sales currency)
