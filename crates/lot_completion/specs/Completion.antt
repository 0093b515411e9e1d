-- Completions: which transaction stands for which, where its amounts have few decimals and an account takes the crumbs.
use Rattle.std.specs.Prelude.{◌≡◌, ◌≤◌, ◌&&◌, ◌||◌, ℕ, Bool, false, if◌then◌else◌, is_none, length, List, [], ◌++◌, filter, flat_map, map, Option, None, Some, ℤ, pos, ◌+ℤ◌}
use Rattle.std.specs.List.{AllZip, list_any}
use Rattle.std.specs.Option.{option_map}
use Rattle.lot_num.specs.Amount.{IsUnits}
use Rattle.lot_base.specs.Text.{same_text}
use Rattle.lot_cost.specs.declared.lot_key.LotKey.{LotKey}
use Rattle.lot_command.specs.declared.price.Price.{Price}
use Rattle.lot_command.specs.declared.price.Price.TheVariants.{Each, Whole}
use Rattle.lot_command.specs.declared.transaction.Amount.{Amount}
use Rattle.lot_command.specs.declared.transaction.Posting.{Posting}
use Rattle.lot_command.specs.declared.transaction.Transaction.{Transaction as TransactionOf}
use Rattle.lot_book.specs.declared.leg.Leg.{Leg}
use Rattle.lot_book.specs.Balance.{residuals, weights_in}
use Rattle.lot_book.specs.Booking.{All, Booked, BooksAllUnder, TieRule, legs_in}
use Rattle.lot_book.specs.Currencies.{sum_in}
use Rattle.lot_book.specs.Facts.{Facts}
use Rattle.lot_book.specs.Refusals.{most_postings}
use Rattle.lot_completion.specs.Crumbs.{IsCrumb, crumb_postings, whole_of}
use Rattle.lot_completion.specs.Rates.{RatesAll, left_of, postings_of}
use Rattle.lot_completion.specs.declared.rates.RatedPosting.{RatedPosting}

-- ---- Currencies of products: crumbs are taken in these alone.

-- whether a leg at cost weighs in the currency
abbrev pub is_cost_in : List ℕ → Option LotKey → Bool
is_cost_in currency None = false
is_cost_in currency (Some lot) = same_text currency lot.currency

-- whether a price is in the currency
abbrev pub is_price_in : List ℕ → Option Price → Bool
is_price_in currency None = false
is_price_in currency (Some (Each price)) = same_text currency price.currency
is_price_in currency (Some (Whole price)) = same_text currency price.1

-- whether a posting weighs at a price in the currency: it has no braces
abbrev pub weighs_at_price : List ℕ → Option Amount → Bool
weighs_at_price currency None = false
weighs_at_price currency (Some amount) = is_none amount.cost && is_price_in currency amount.price

-- whether a product weighs in the currency, of postings that have these legs
abbrev pub has_products_in : List Posting → List Leg → List ℕ → Bool
has_products_in postings legs currency =
    list_any (λ (leg : Leg). is_cost_in currency leg.position.lot) legs
    || list_any (λ (p : Posting). weighs_at_price currency p.amount) postings

-- of currencies, each beside its residual, those in which a product weighs
abbrev pub of_products : List Posting → List Leg → List (List ℕ × ℤ) → List (List ℕ × ℤ)
of_products postings legs rs = filter (λ (r : List ℕ × ℤ). has_products_in postings legs r.0) rs

abbrev pub product_residuals : List Posting → List Booked → List (List ℕ × ℤ)
product_residuals postings booked = of_products postings (legs_in booked) (residuals (weights_in booked))

-- ---- The crumbs of a transaction.

-- how many decimals the fill has, where a posting is elided
abbrev pub fill_decimals : ℕ → List Posting → Option ℕ
fill_decimals decimals postings = if list_any (λ (p : Posting). is_none p.amount) postings then Some decimals else None

-- the residual with each total in the place of what its units cost at the rate, of rates that leave so much
abbrev pub stated : List (List ℕ × ℤ) → List ℕ × ℤ → ℤ
stated left residual = residual.1 +ℤ sum_in left residual.0

-- the crumb of a currency, which is no more than an account can take
pub record IsCrumbOf (fill : Option ℕ) (left : List (List ℕ × ℤ)) (residual crumb : List ℕ × ℤ) : Type 0 where
  pub currency : crumb.0 ≡ residual.0
  pub amount : IsCrumb fill (stated left residual) residual.1 crumb.1
  pub in_range : IsUnits (whole_of crumb.1)

-- ---- Completions.

-- A transaction, with these crumbs, completes another on what a book says, with an account for the crumbs and so many decimals
-- of the fill. A total that no rate comes to is a rate there, all else is as it was written, and the postings of the account
-- stand behind.
pub record IsCompletion (ties : TieRule) (facts : Facts) (account : List ℕ) (decimals : ℕ) (t : TransactionOf)
    (crumbs : List (List ℕ × ℤ)) (completed : TransactionOf) : Type 0 where
  pub few : length t.postings ≤ most_postings
  pub rated : List RatedPosting
  pub rates : RatesAll t.postings rated
  pub booked : List Booked
  pub books : BooksAllUnder ties facts t.day [] 1 (postings_of rated) (All booked)
  pub are : AllZip (IsCrumbOf (fill_decimals decimals t.postings) (left_of rated)) (product_residuals (postings_of rated) booked) crumbs
  pub is : completed ≡ record t { postings = postings_of rated ++ flat_map (crumb_postings account) crumbs }

-- crumbs of zero, in the same currencies
abbrev pub zeros_of : List (List ℕ × ℤ) → List (List ℕ × ℤ)
zeros_of crumbs = map (λ (c : List ℕ × ℤ). (c.0, pos 0)) crumbs

-- what a posting moves: its account, and the units of a commodity, if it has an amount
abbrev pub gets : Posting → List ℕ × Option (ℤ × List ℕ)
gets posting = (posting.account, option_map (λ (a : Amount). (a.units, a.commodity)) posting.amount)
