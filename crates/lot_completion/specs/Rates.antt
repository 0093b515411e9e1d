-- The whole costs that no rate comes to exactly, each replaced by the nearest rate, and what the rates leave of the totals.
use Rattle.std.specs.Prelude.{◌≡◌, ℕ, List, map, filter_map, Option, None, Some, ℤ, pos, ◌-ℤ◌, ◌*ℤ◌}
use Rattle.std.specs.List.{AllZip}
use Rattle.lot_num.specs.Amount.{IsUnits, per_unit}
use Rattle.lot_cost.specs.declared.cost.Cost.{Cost}
use Rattle.lot_cost.specs.declared.cost.Cost.TheVariants.{Each, Whole}
use Rattle.lot_cost.specs.declared.cost_spec.CostSpec.{CostSpec}
use Rattle.lot_command.specs.declared.transaction.Amount.{Amount}
use Rattle.lot_command.specs.declared.transaction.Posting.{Posting}
use Rattle.lot_book.specs.Balance.{with_sign}
use Rattle.lot_rounding.specs.Nearest.{IsNearestRate}
use Rattle.lot_completion.specs.declared.rates.RatedCost.{RatedCost}
use Rattle.lot_completion.specs.declared.rates.RatedPosting.{RatedPosting}
use Rattle.lot_completion.specs.declared.rates.RatedPostings.{RatedPostings}

-- ---- one posting

-- A rate stands in the place of a total, in the same braces. It leaves, in the currency of the cost, the total with the sign
-- of the units less what the units cost at the rate.
pub record RoundsTotal (units total : ℤ) (spec : CostSpec) (rated : RatedCost) : Type 0 where
  pub in_range : IsUnits units
  pub rate : ℕ
  pub currency : List ℕ
  pub nearest : IsNearestRate units total rate
  pub given : spec.currency ≡ Some currency
  pub cost : rated.cost ≡ Some (Each (record spec { number = Some rate }))
  pub left : rated.left ≡ Some (currency, with_sign units total -ℤ units *ℤ pos rate)

-- a cost stays as it is written
abbrev pub Stays : Option Cost → RatedCost → Type 0
Stays written rated = (rated.cost ≡ written) × (rated.left ≡ None)

-- a total stays where the units come to it at a rate
abbrev pub RatesTotal : ℤ → ℤ × CostSpec → Option ℕ → RatedCost → Type 0
RatesTotal units whole None rated = RoundsTotal units whole.0 whole.1 rated
RatesTotal units whole (Some rate) rated = Stays (Some (Whole whole)) rated

-- so does a cost of each unit, or none
abbrev pub RatesCost : ℤ → Option Cost → RatedCost → Type 0
RatesCost units None rated = Stays None rated
RatesCost units (Some (Each spec)) rated = Stays (Some (Each spec)) rated
RatesCost units (Some (Whole whole)) rated = RatesTotal units whole (per_unit units whole.0) rated

-- the amount of a posting, if it has one, with that cost
abbrev pub RatesAmount : Option Amount → Option Amount → Option (List ℕ × ℤ) → Type 0
RatesAmount None amount left = (amount ≡ None) × (left ≡ None)
RatesAmount (Some written) amount left =
    (rated : RatedCost) × RatesCost written.units written.cost rated
    × (amount ≡ Some (record written { cost = rated.cost })) × (left ≡ rated.left)

-- a posting whose cost is a rate, where it was a total that no rate comes to
pub record Rates (written : Posting) (rated : RatedPosting) : Type 0 where
  pub account : rated.posting.account ≡ written.account
  pub amount : RatesAmount written.amount rated.posting.amount rated.left

-- ---- all postings

abbrev pub RatesAll : List Posting → List RatedPosting → Type 0
RatesAll written rated = AllZip Rates written rated

abbrev pub postings_of : List RatedPosting → List Posting
postings_of rated = map (λ (r : RatedPosting). r.posting) rated

-- what the rates leave, each amount beside its currency
abbrev pub left_of : List RatedPosting → List (List ℕ × ℤ)
left_of rated = filter_map (λ (r : RatedPosting). r.left) rated

-- postings and what their rates leave, of postings as they were written
pub record AreRated (written : List Posting) (found : RatedPostings) : Type 0 where
  pub rated : List RatedPosting
  pub rates : RatesAll written rated
  pub postings : found.postings ≡ postings_of rated
  pub left : found.left ≡ left_of rated
