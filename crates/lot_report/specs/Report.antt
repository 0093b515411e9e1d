-- What reports have in common: sums of amounts in each currency, and totals that stay in range (docs/FORMATS.md, Printed texts).
use Rattle.std.specs.Prelude.{◌≡◌, ℕ, Bool, true, false, IsTrue, nat_le, if◌then◌else◌, List, [], ◌∷◌, ◌++◌, None, Some, ℤ, unsigned_abs, ⊤}
use Rattle.std.specs.Ordering.{is_eq}
use Rattle.std.specs.List.{list_all, list_any}
use Rattle.std.specs.List.Sorted.{IsStrictlySortedBy}
use Rattle.std.specs.Map.{keys_of, lookup}
use Rattle.lot_report.specs.declared.line.PrintFault.{PrintFault}
use Rattle.lot_report.specs.declared.fault.ReportFault.{ReportFault}
use Rattle.lot_report.specs.declared.fault.ReportFault.TheVariants.{Write, Memory}
use Rattle.lot_num.specs.Amount.{greatest_wide}
use Rattle.lot_base.specs.Text.{same_text, text_cmp}
use Rattle.lot_book.specs.Currencies.{sum_in}

-- ---- Sums.

-- whether a currency is that of some amount
abbrev pub is_named : List ℕ → List (List ℕ × ℤ) → Bool
is_named currency amounts = list_any (λ (amount : List ℕ × ℤ). same_text currency amount.0) amounts

-- the sum of the amounts in each currency of one, by the bytes of the currencies
pub record AreSums (amounts sums : List (List ℕ × ℤ)) : Type 0 where
  pub in_order : IsStrictlySortedBy text_cmp (keys_of sums)
  pub each : (currency : List ℕ) → lookup (λ name. is_eq (text_cmp currency name)) sums
      ≡ (if is_named currency amounts then Some (sum_in amounts currency) else None)

-- ---- Totals stay in range, row by row.

abbrev pub is_wide : ℤ → Bool
is_wide z = nat_le (unsigned_abs z) greatest_wide

-- whether the sums to which some amounts add are in range, over all amounts so far
abbrev pub stay_wide : List (List ℕ × ℤ) → List (List ℕ × ℤ) → Bool
stay_wide all amounts = list_all (λ (amount : List ℕ × ℤ). is_wide (sum_in all amount.0)) amounts

-- each of the rows fits behind those before it
abbrev pub EachFits : {X : Type 0} → (List X → X → Bool) → List X → List X → Type 0
EachFits fits before [] = ⊤
EachFits fits before (row ∷ rows) = IsTrue (fits before row) × EachFits fits (before ++ row ∷ []) rows

abbrev pub is_nil : {X : Type 0} → List X → Bool
is_nil [] = true
is_nil (row ∷ rows) = false

-- what a fault of a line is for the report
abbrev pub report_fault : PrintFault → ReportFault
report_fault PrintFault.Write = Write
report_fault PrintFault.Memory = Memory
