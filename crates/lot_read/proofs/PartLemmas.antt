-- What a single part means.
use Rattle.std.proofs.Common.{◌≡◌, ℕ, List, Ok, Err, Result, ℤ, pos, ◌≤ℤ◌, subst, arith}
use Rattle.std.proofs.lemmas.Int.{ints}
use Rattle.lot_num.specs.declared.number_text.NumberFault.{NumberFault}
use Rattle.lot_num.specs.NumberText.{as_units, with_no_sign, read_below}
use Rattle.lot_num.specs.Amount.{units_limit}
use Rattle.lot_read.specs.Meaning.{MeansTotal}

natural_not_negative : (r : Result ℕ NumberFault) (total : ℤ) → as_units r ≡ Ok total → pos 0 ≤ℤ total
natural_not_negative (Ok n) total e = let same : pos n ≡ total = cc in subst (λ t. pos 0 ≤ℤ t) same (omega (arith, ints))
natural_not_negative (Err fault) total e = cc

pub total_not_negative : (bytes : List ℕ) (total : ℤ) → MeansTotal bytes total → pos 0 ≤ℤ total
total_not_negative bytes total means = natural_not_negative (with_no_sign (read_below units_limit bytes)) total means
