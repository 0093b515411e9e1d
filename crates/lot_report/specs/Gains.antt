-- The report of gains: sales with the lots that they took, and what they gain in each currency (docs/FORMATS.md, Gains).
use Rattle.std.specs.Prelude.{◌≡◌, ℕ, Bool, true, false, is_none, List, [], ◌∷◌, ◌++◌, map, flat_map, Option, None, Some, option_map, Result, ℤ, codes}
use Rattle.lot_num.specs.AmountText.{amount_text}
use Rattle.lot_base.specs.Day.{day_text}
use Rattle.lot_cost.specs.declared.lot_key.LotKey.{LotKey}
use Rattle.lot_command.specs.declared.price.Price.{Price}
use Rattle.lot_book.specs.declared.gain.Gain.{Gain}
use Rattle.lot_book.specs.Gain.{currency_of, gain_of}
use Rattle.lot_book.specs.Sale.{SaleParts}
use Rattle.lot_report.specs.declared.fault.RowFault.{RowFault}
use Rattle.lot_report.specs.declared.gains.Gains.{Gains}
use Rattle.lot_report.specs.declared.gains.GainSums.{GainSums}
use Rattle.lot_report.specs.declared.fault.ReportFault.{ReportFault}
use Rattle.lot_report.specs.declared.lot.Valuation.TheVariants.{Unasked}
use Rattle.lot_report.specs.Fed.{CountsRow, EndsReport, GrowsByRow, IsWhole, TakesRow, text_of}
use Rattle.lot_report.specs.Fed as fed
use Rattle.lot_report.specs.Printed.{line, lot_row, total_of}
use Rattle.lot_report.specs.Report.{AreSums, is_nil, stay_wide}

-- ---- Gains.

-- the gain of a sale with that price, beside the currency of the price; none where the sale is unpriced
abbrev pub gained_at : Option Price → SaleParts → Option (List ℕ × Gain)
gained_at None sale = None
gained_at (Some price) sale = option_map (λ (gain : Gain). (currency_of price, gain)) (gain_of sale)

abbrev pub gained : SaleParts → Option (List ℕ × Gain)
gained sale = gained_at sale.price sale

-- what counts for the totals
abbrev pub amounts_in : Option (List ℕ × Gain) → List (List ℕ × ℤ)
amounts_in None = []
amounts_in (Some priced) = (priced.0, priced.1.gain) ∷ []

abbrev pub amounts_of : List SaleParts → List (List ℕ × ℤ)
amounts_of sales = flat_map (λ (sale : SaleParts). amounts_in (gained sale)) sales

-- whether the total to which a sale adds is in range behind those before it
abbrev pub fits : List SaleParts → SaleParts → Bool
fits before sale = stay_wide (amounts_of (before ++ sale ∷ [])) (amounts_in (gained sale))

-- ---- Texts.

-- what the line of a sale begins with, with the text of its units
abbrev pub front_with : List ℕ → SaleParts → List ℕ
front_with units sale = day_text sale.day ++ codes " " ++ sale.account ++ codes " " ++ units ++ codes " " ++ sale.commodity

abbrev pub front : SaleParts → List ℕ
front sale = front_with (amount_text 0 8 sale.units) sale

abbrev pub priced_line : SaleParts → List ℕ → Gain → List ℕ
priced_line sale currency gain =
    line (front sale ++ codes " proceeds " ++ amount_text 2 16 gain.proceeds ++ codes " cost " ++ amount_text 2 16 gain.cost
    ++ codes " gain " ++ amount_text 2 16 gain.gain ++ codes " " ++ currency)

abbrev pub unpriced_line : SaleParts → List ℕ
unpriced_line sale = line (front sale ++ codes " unpriced")

abbrev pub sale_line : SaleParts → Option (List ℕ × Gain) → List ℕ
sale_line sale None = unpriced_line sale
sale_line sale (Some priced) = priced_line sale priced.0 priced.1

-- the line of a leg, below that of its sale: as a lot in the holdings, with a space in the place of the account
abbrev pub leg_line : List ℕ → LotKey × ℤ → List ℕ
leg_line commodity leg = lot_row (codes " ") commodity leg.0 leg.1 Unasked

abbrev pub sale_lines : SaleParts → List (List ℕ)
sale_lines sale = sale_line sale (gained sale) ∷ map (leg_line sale.commodity) sale.legs

abbrev pub sales_text : List SaleParts → List ℕ
sales_text sales = text_of sale_lines sales

-- what stands behind the sales: that there were none, or what they gain in each currency
abbrev pub end_lines : Bool → List (List ℕ × ℤ) → List (List ℕ)
end_lines true totals = line (codes "no gains") ∷ []
end_lines false totals = map (λ (total : List ℕ × ℤ). total_of (codes "gain") total.0 total.1) totals

abbrev pub IsEnd : List SaleParts → List (List ℕ) → Type 0
IsEnd sales end = (totals : List (List ℕ × ℤ)) × AreSums (amounts_of sales) totals × (end ≡ end_lines (is_nil sales) totals)

-- the report of sales, where all totals stay in range
abbrev pub IsGains : List SaleParts → List ℕ → Type 0
IsGains sales text = IsWhole sale_lines fits IsEnd sales text

-- ---- Reports that are fed sale by sale.

-- what a report keeps that has taken these sales and no other
abbrev pub HasTaken : List SaleParts → GainSums → Type 0
HasTaken sales progress = (progress.is_empty ≡ is_nil sales) × AreSums (amounts_of sales) progress.gains.sums.entries

-- what becomes of it with the gain of one more sale
abbrev pub CountsSale : List SaleParts → SaleParts → GainSums → Result (Unit {0}) ReportFault → Type 0
CountsSale sales sale progress result = CountsRow fits HasTaken sales sale progress result

-- the same, and what is written of the sale
abbrev pub TakesSale : List SaleParts → SaleParts → GainSums → Option (List ℕ) → Option (List ℕ)
    → Result (Unit {0}) ReportFault → Type 0
TakesSale sales sale progress old new result = TakesRow sale_lines fits HasTaken sales sale progress old new result

-- whether a fault has ended the report
abbrev pub is_spent : Gains → Bool
is_spent report = is_none report.progress

-- unless a fault has ended it, a report has taken these sales and no other, and their totals stay in range
abbrev pub IsFed : List SaleParts → Gains → Type 0
IsFed sales report = fed.IsFed fits HasTaken sales report.progress

-- what a writer holds after one more sale
abbrev pub GrowsBySale : List SaleParts → SaleParts → Gains → Option (List ℕ) → Option (List ℕ) → Result (Unit {0}) RowFault → Type 0
GrowsBySale sales sale report start now result = GrowsByRow sale_lines fits HasTaken sales sale report.progress start now result

-- what a writer holds after the end
abbrev pub EndsGains : List SaleParts → Option (List ℕ) → Option (List ℕ) → Result (Unit {0}) RowFault → Type 0
EndsGains sales start now result = EndsReport sale_lines fits IsEnd sales start now result
