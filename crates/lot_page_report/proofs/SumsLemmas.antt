-- The parts of a page by what they are of.
use Rattle.std.specs.Prelude.{◌==◌, ◌≢◌, Bool, codes, cond, false, true}
use Rattle.std.proofs.Common.{◌≡◌, ℕ, List, [], ◌∷◌, ◌++◌, length, map, Some, ap, refl, arith}
use Rattle.std.proofs.lemmas.Bool.{true≢false}
use Rattle.lot_cells.specs.declared.holdings.LotTotals.{LotTotals}
use Rattle.lot_months.specs.Series.{shown}
use Rattle.lot_months.specs.declared.range.MonthRange.{MonthRange}
use Rattle.lot_months.specs.declared.series.CurrencyMonths.{CurrencyMonths}
use Rattle.lot_plot.specs.Plot.{all_of}
use Rattle.lot_report.specs.declared.holdings.ValuedHolding.{ValuedHolding}
use Rattle.lot_page_report.specs.Sections.{AreCurrencyMonths, IsMonthsInner, bound_note, held_inner, held_table, key_of, unpriced_note}
use Rattle.lot_page_report.specs.Text.{count_html, rounding_note}

-- a key, and the comma behind it
pub key_cut : (front : List ℕ) → key_of (front ++ 44 ∷ []) ≡ front
key_cut [] = refl
key_cut (byte ∷ []) = refl
key_cut (byte ∷ next ∷ rest) = ap (λ (t : List ℕ). byte ∷ t) (key_cut (next ∷ rest))

-- by whether it is a comma
one_kept : (byte : ℕ) (b : Bool) → (byte == 44) ≡ b → (byte ≡ 44 → ⊥) → (cond b [] (byte ∷ [])) ≡ byte ∷ []
one_kept byte true is none = let same : byte ≡ 44 = grind arith in absurd (none same)
one_kept byte false is none = refl

-- a text with no comma at its end
pub key_whole : (text : List ℕ) → ((front : List ℕ) → text ≢ front ++ 44 ∷ []) → key_of text ≡ text
key_whole [] none = refl
key_whole (byte ∷ []) none = one_kept byte (byte == 44) refl (λ is. none [] (ap (λ (n : ℕ). n ∷ []) is))
key_whole (byte ∷ next ∷ rest) none =
    ap (λ (t : List ℕ). byte ∷ t) (key_whole (next ∷ rest) (λ front is. none (byte ∷ front) (ap (λ (t : List ℕ). byte ∷ t) is)))

-- lots without a price
pub note_some : (count : ℕ) → (count ≡ 0 → ⊥) → unpriced_note count
    ≡ all_of (codes "<p class=\"note\">Lots without a price: " ∷ count_html count ∷ codes ". They count in the total cost, not in the total value and gain.</p>\n" ∷ [])
note_some count some = by (count == 0) refl
  where
    note : List ℕ
    note =
        all_of (codes "<p class=\"note\">Lots without a price: " ∷ count_html count ∷ codes ". They count in the total cost, not in the total value and gain.</p>\n" ∷ [])

    by : (b : Bool) → (count == 0) ≡ b → cond b [] note ≡ note
    by true is = let none : count ≡ 0 = grind arith in absurd (some none)
    by false is = refl

-- something is held
pub held_inner_is : (rows : List ValuedHolding) (totals : List (List ℕ × LotTotals)) → (length rows == 0) ≡ false
    → held_table rows totals ≡ held_inner rows totals
held_inner_is [] totals some = absurd (true≢false some)
held_inner_is (row ∷ rows) totals some = refl

-- there are lots in some month
pub months_inner_is : (range : MonthRange) (months : List CurrencyMonths) (inner : List ℕ) → (length months == 0) ≡ false
    → AreCurrencyMonths range.first.0 (map shown months) inner
    → IsMonthsInner (Some range) (map shown months) (all_of (bound_note range.whole ∷ inner ∷ rounding_note ∷ []))
months_inner_is range [] inner some are = absurd (true≢false some)
months_inner_is range (one ∷ months) inner some are = (inner, are, refl)
