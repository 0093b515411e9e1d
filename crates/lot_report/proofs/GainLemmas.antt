-- What a sale adds to the totals of gains.
use Rattle.std.proofs.Common.{◌≡◌, ℕ, List, [], ◌∷◌, ◌++◌, refl, sym, ap, ◌∙◌, subst, append_assoc, append-nil}
use Rattle.std.specs.Prelude.{◌≢◌, Bool, true, false, not, IsTrue, IfErr, IsErrOf, OnOk, Option, None, Some, Result, Ok, Err, ℤ, ◌+ℤ◌, ◌&&◌, codes}
use Rattle.lot_num.specs.Amount.{IsWide}
use Rattle.lot_num.specs.AmountText.{amount_text}
use Rattle.lot_base.proofs.TextLemmas.{same_text-itself}
use Rattle.lot_cost.specs.declared.lot_key.LotKey.{LotKey}
use Rattle.lot_book.specs.declared.gain.Gain.{Gain}
use Rattle.lot_book.specs.Currencies.{sum_in}
use Rattle.lot_book.specs.Sale.{SaleParts}
use Rattle.lot_book.proofs.SumLemmas.{sum_in-push_here}
use Rattle.lot_report.specs.declared.gains.GainSums.{GainSums}
use Rattle.lot_report.specs.declared.fault.ReportFault.{ReportFault}
use Rattle.lot_report.specs.declared.fault.ReportFault.TheVariants.{Range, Write, Memory}
use Rattle.lot_report.specs.declared.line.PrintFault.{PrintFault}
use Rattle.lot_report.specs.Gains.{CountsSale, HasTaken, IsEnd, amounts_in, amounts_of, end_lines, fits, front_with, gained, leg_line, priced_line}
use Rattle.lot_report.specs.Printed.{line, total_of}
use Rattle.lot_report.specs.Report.{AreSums, is_wide, stay_wide}
use Rattle.lot_report.specs.Written.{WritesEach, WritesLine}
use Rattle.lot_report.proofs.SumLemmas.{not_wide_is, snoc_is_some, wide_is}
use Rattle.lot_report.proofs.EachLemmas.{text_more}
use Rattle.lot_report.proofs.FedLemmas.{lines_of_items, one_line}

-- what stands behind some sales
pub totals_behind : (empty : Bool) (totals : List (List ℕ × ℤ)) (old new : Option (List ℕ)) (result : Result (Unit {0}) PrintFault) → empty ≡ false
    → WritesEach (λ (total : List ℕ × ℤ). total_of (codes "gain") total.0 total.1) totals old new result
    → WritesEach (λ (t : List ℕ). t) (end_lines empty totals) old new result
totals_behind empty totals old new result some wrote =
    subst (λ b. WritesEach (λ (t : List ℕ). t) (end_lines b totals) old new result) (sym some)
    (lines_of_items (λ (total : List ℕ × ℤ). total_of (codes "gain") total.0 total.1) totals old new result wrote)

-- what stands behind no sale
pub none_behind : (empty : Bool) (totals : List (List ℕ × ℤ)) (old new : Option (List ℕ)) (result : Result (Unit {0}) PrintFault) → empty ≡ true
    → WritesLine old new result (line (codes "no gains")) → WritesEach (λ (t : List ℕ). t) (end_lines empty totals) old new result
none_behind empty totals old new result none wrote =
    subst (λ b. WritesEach (λ (t : List ℕ). t) (end_lines b totals) old new result) (sym none)
    (one_line (line (codes "no gains")) old new result wrote)

-- the lines behind them, from what is kept
pub end_is : (sales : List SaleParts) (progress : GainSums) → HasTaken sales progress
    → IsEnd sales (end_lines progress.is_empty progress.gains.sums.entries)
end_is sales progress taken =
    (progress.gains.sums.entries, taken.1, ap (λ b. end_lines b progress.gains.sums.entries) taken.0)

-- ---- Gains.

amounts_snoc : (sales : List SaleParts) (sale : SaleParts) → amounts_of (sales ++ sale ∷ []) ≡ amounts_of sales ++ amounts_in (gained sale)
amounts_snoc sales sale = text_more (λ (s : SaleParts). amounts_in (gained s)) sales sale

amounts_with : (sales : List SaleParts) (sale : SaleParts) (currency : List ℕ) (gain : Gain) → gained sale ≡ Some (currency, gain)
    → amounts_of (sales ++ sale ∷ []) ≡ amounts_of sales ++ (currency, gain.gain) ∷ []
amounts_with sales sale currency gain priced = amounts_snoc sales sale ∙ ap (λ p. amounts_of sales ++ amounts_in p) priced

fits_is_wide : (sales : List SaleParts) (sale : SaleParts) (currency : List ℕ) (gain : Gain) → gained sale ≡ Some (currency, gain)
    → fits sales sale ≡ (is_wide (sum_in (amounts_of sales) currency +ℤ gain.gain) && true)
fits_is_wide sales sale currency gain priced =
    ap (λ p. stay_wide (amounts_of (sales ++ sale ∷ [])) (amounts_in p)) priced
    ∙ ap (λ z. is_wide z && true)
    (ap (λ amounts. sum_in amounts currency) (amounts_with sales sale currency gain priced)
    ∙ sum_in-push_here (amounts_of sales) (currency, gain.gain) currency (same_text-itself currency))

-- what the addition of its gain says of a priced sale
pub takes_priced : (sales : List SaleParts) (sale : SaleParts) (currency : List ℕ) (gain : Gain) (progress : GainSums)
    (result : Result (Unit {0}) ReportFault)
    → gained sale ≡ Some (currency, gain)
    → OnOk result (AreSums (amounts_of sales ++ (currency, gain.gain) ∷ []) progress.gains.sums.entries)
    → OnOk result (IsWide (sum_in (amounts_of sales) currency +ℤ gain.gain))
    → (IsErrOf result Range → IsWide (sum_in (amounts_of sales) currency +ℤ gain.gain) → ⊥)
    → (IsErrOf result Memory → IsWide (sum_in (amounts_of sales) currency +ℤ gain.gain))
    → IfErr result (λ fault. fault ≢ Write)
    → progress.is_empty ≡ false → CountsSale sales sale progress result
takes_priced sales sale currency gain progress (Ok done) priced taken wide range room cause some = (
  fits_is_wide sales sale currency gain priced ∙ wide_is (sum_in (amounts_of sales) currency +ℤ gain.gain) wide,
  (
    some ∙ snoc_is_some sales sale,
    subst (λ amounts. AreSums amounts progress.gains.sums.entries) (sym (amounts_with sales sale currency gain priced)) taken,
  ),
)
takes_priced sales sale currency gain progress (Err Range) priced taken wide range room cause some =
    ap not (fits_is_wide sales sale currency gain priced) ∙ not_wide_is (sum_in (amounts_of sales) currency +ℤ gain.gain) (range refl)
takes_priced sales sale currency gain progress (Err Write) priced taken wide range room cause some = cause refl
takes_priced sales sale currency gain progress (Err Memory) priced taken wide range room cause some =
    fits_is_wide sales sale currency gain priced ∙ wide_is (sum_in (amounts_of sales) currency +ℤ gain.gain) (room refl)

-- an unpriced sale adds nothing
pub takes_unpriced : (sales : List SaleParts) (sale : SaleParts) (progress : GainSums) → gained sale ≡ None
    → AreSums (amounts_of sales) progress.gains.sums.entries → progress.is_empty ≡ false
    → IsTrue (fits sales sale) × HasTaken (sales ++ sale ∷ []) progress
takes_unpriced sales sale progress unpriced sums some = (
  ap (λ p. stay_wide (amounts_of (sales ++ sale ∷ [])) (amounts_in p)) unpriced,
  (
    some ∙ snoc_is_some sales sale,
    subst (λ amounts. AreSums amounts progress.gains.sums.entries)
        (sym (amounts_snoc sales sale ∙ ap (λ p. amounts_of sales ++ amounts_in p) unpriced ∙ append-nil (amounts_of sales))) sums,
  ),
)

-- ---- The line of a priced sale, from its pieces.

pub priced_printed : (old new : Option (List ℕ)) (result : Result (Unit {0}) PrintFault) (sale : SaleParts) (currency : List ℕ) (gain : Gain)
    (units proceeds cost total : List ℕ)
    → units ≡ amount_text 0 8 sale.units → proceeds ≡ amount_text 2 16 gain.proceeds → cost ≡ amount_text 2 16 gain.cost
    → total ≡ amount_text 2 16 gain.gain
    → WritesLine old new result
    (line (front_with units sale ++ (codes " proceeds " ++ (proceeds ++ (codes " cost " ++ (cost ++ (codes " gain " ++ (total ++ 32 ∷ currency))))))))
    → WritesLine old new result (priced_line sale currency gain)
priced_printed old new result sale currency gain units proceeds cost total u p k t wrote =
    let text = front_with units sale in
    let pieces : line (text ++ (codes " proceeds " ++ (proceeds ++ (codes " cost " ++ (cost ++ (codes " gain " ++ (total ++ 32 ∷ currency)))))))
    ≡ priced_line sale currency gain = simp (u, p, k, t, append_assoc) in
    subst (WritesLine old new result) pieces wrote

-- ---- The legs of a sale.

pub legs_of_sale : (commodity other : List ℕ) (legs others : List (LotKey × ℤ)) (old new : Option (List ℕ)) (result : Result (Unit {0}) PrintFault)
    → commodity ≡ other → legs ≡ others → WritesEach (leg_line commodity) legs old new result → WritesEach (leg_line other) others old new result
legs_of_sale commodity other legs others old new result same all wrote =
    subst (λ ls. WritesEach (leg_line other) ls old new result) all
    (subst (λ c. WritesEach (leg_line c) legs old new result) same wrote)
