-- The sums of crumbs in each of their currencies.
use Rattle.std.specs.Prelude.{◌≡◌, ℕ, not, List, [], ◌∷◌, ◌++◌, filter, Option, None, Some, IfSome, ℤ, pos, ◌+ℤ◌}
use Rattle.std.specs.Ordering.{int_eq}
use Rattle.lot_num.specs.Amount.{IsWide}
use Rattle.lot_book.specs.Currencies.{sum_in}
use Rattle.lot_report.specs.Report.{AreSums}
use Rattle.lot_completion.specs.declared.watch.Note.{Note}
use Rattle.lot_completion.specs.declared.watch.Note.TheVariants as note
use Rattle.lot_call.specs.declared.crumbs.Crumbs.{Crumbs}
use Rattle.lot_call.specs.declared.sums.Sums.{Sums}
use Rattle.lot_call.specs.declared.taken.Taken.{Taken}

-- amounts, one after another, take the sum in a currency out of the range of weights
pub record LeaveRange (amounts : List (List ℕ × ℤ)) : Type 0 where
  pub before : List (List ℕ × ℤ)
  pub amount : List ℕ × ℤ
  pub after : List (List ℕ × ℤ)
  pub all : amounts ≡ before ++ amount ∷ after
  pub leaves : IsWide (sum_in before amount.0 +ℤ amount.1) → ⊥

-- the sums of amounts, as long as they stay in range
abbrev pub AreSummed : List (List ℕ × ℤ) → Option Sums → Type 0
AreSummed amounts None = LeaveRange amounts
AreSummed amounts (Some sums) = AreSums amounts sums.by_currency.entries

-- the crumbs of a command that aren't zero
abbrev pub nonzero : List (List ℕ × ℤ) → List (List ℕ × ℤ)
nonzero crumbs = filter (λ (c : List ℕ × ℤ). not (int_eq c.1 (pos 0))) crumbs

-- those that an account took, by what is told
abbrev pub taken_by : Note → List (List ℕ × ℤ)
taken_by (note.Taken crumbs) = nonzero crumbs
taken_by _ = []

-- what is kept of these, if anything is, has their sums
abbrev pub HasSums : List (List ℕ × ℤ) → Option Taken → Type 0
HasSums amounts taken = IfSome taken (λ (t : Taken). AreSummed amounts t.sums)

abbrev pub KeepsSums : List (List ℕ × ℤ) → Crumbs → Type 0
KeepsSums amounts crumbs = HasSums amounts crumbs.taken
