-- What is written of a value means that value.
use Rattle.std.proofs.Common.{◌≡◌, ℕ, zero, suc, Bool, List, refl, ap, ◌∙◌, sym, arith, ℤ, pos, negsuc, Result, Ok, Err}
use Rattle.std.specs.Prelude.{neg_ℤ}
use Rattle.std.proofs.lemmas.Int.{ints}
use Rattle.lot_num.specs.Amount.{IsRate, IsUnits, units_limit}
use Rattle.lot_num.specs.NumberText.{as_units, non_negative, read_below, with_no_sign, with_sign}
use Rattle.lot_num.specs.declared.number_text.NumberFault.{NumberFault}
use Rattle.lot_num.specs.declared.number_text.Sign.{Sign}
use Rattle.lot_num.specs.declared.number_text.Sign.TheVariants.{Plus, Minus}
use Rattle.lot_num.proofs.PrintedLemmas.{rate_of-amount_text, units_of-amount_text}
use Rattle.lot_base.specs.Day.{IsDayNumber, day_text}
use Rattle.lot_base.specs.Name.{IsName, is_label, is_note}
use Rattle.lot_base.proofs.ReadBackLemmas.{named_day-day_text}
use Rattle.lot_command.specs.Canonical.{escaped, rate_text, units_text}
use Rattle.lot_read.specs.Meaning.{MeansDay, MeansRate, MeansTotal, MeansUnits, Names, Quotes}
use Rattle.lot_command.specs.Sayable.{IsTotal}
use Rattle.lot_print.proofs.NoteLemmas.{label_escaped}

pub name_means : (is_name : List ℕ → Bool) (name : List ℕ) → IsName is_name name → Names is_name name name
name_means is_name name h = record { spelled = refl; good = h.1 }

pub label_means : (label : List ℕ) → IsName is_label label → Quotes is_label label label
label_means label h = record { spelled = label_escaped label h.1; good = h.1 }

pub note_means : (note : List ℕ) → IsName is_note note → Quotes is_note (escaped note) note
note_means note h = record { spelled = refl; good = h.1 }

pub units_mean : (units : ℤ) → IsUnits units → MeansUnits (units_text units) units
units_mean units h = units_of-amount_text 0 units h

pub day_means : (n : ℤ) → IsDayNumber n → MeansDay (day_text n) n
day_means n h = named_day-day_text n h

pub rate_means : (rate : ℕ) → IsRate rate → MeansRate (rate_text rate) rate
rate_means rate h = rate_of-amount_text rate h

-- ---- Totals: units that aren't below zero.

minus_zero : (n m : ℕ) → neg_ℤ (pos n) ≡ pos m → (n ≡ 0) × (m ≡ 0)
minus_zero zero zero e = (refl, refl)
minus_zero zero (suc m) e = cc
minus_zero (suc n) m e = cc

total_by : (read : Result (Sign × ℕ) NumberFault) (n : ℕ) → with_sign read ≡ Ok (pos n)
    → as_units (with_no_sign read) ≡ Ok (pos n)
total_by (Err fault) n e = cc
total_by (Ok (Plus, m)) n e = e
total_by (Ok (Minus, m)) n e =
    let zeros = minus_zero m n (cc (e)) in
    ap (λ k. as_units (non_negative Minus k)) zeros.0 ∙ ap (λ k. Ok (pos k)) (sym zeros.1)

pub total_means : (total : ℤ) → IsTotal total → MeansTotal (units_text total) total
total_means (pos n) h = total_by (read_below units_limit (units_text (pos n))) n (units_of-amount_text 0 (pos n) h.units)
total_means (negsuc n) h = absurd (omega (arith, ints, h.not_negative))
