-- The commands that there can be: each part of one is within its rule (docs/RULES.md, Names; Limits).
use Rattle.std.specs.Prelude.{◌≡◌, ◌≤◌, ℕ, ℤ, pos, ◌≤ℤ◌, IfSome, List, length, None}
use Rattle.std.specs.List.{AllByRecursion}
use Rattle.lot_num.specs.Amount.{IsRate, IsUnits}
use Rattle.lot_base.specs.Day.{IsDayNumber}
use Rattle.lot_base.specs.Name.{IsName, is_account, is_commodity, is_label, is_note}
use Rattle.lot_cost.specs.declared.cost.Cost.{Cost}
use Rattle.lot_cost.specs.declared.cost.Cost.TheVariants as Costs
use Rattle.lot_cost.specs.declared.cost_spec.CostSpec.{CostSpec}
use Rattle.lot_command.specs.Currencies.{most_currencies}
use Rattle.lot_command.specs.declared.command.Closing.{Closing}
use Rattle.lot_command.specs.declared.command.Command.{Command}
use Rattle.lot_command.specs.declared.command.Command.TheVariants as Commands
use Rattle.lot_command.specs.declared.command.Declaring.{Declaring}
use Rattle.lot_command.specs.declared.command.Opening.{Opening}
use Rattle.lot_command.specs.declared.command.Quoting.{Quoting}
use Rattle.lot_command.specs.declared.price.Price.{Price}
use Rattle.lot_command.specs.declared.price.Price.TheVariants as Prices
use Rattle.lot_command.specs.declared.transaction.Amount.{Amount}
use Rattle.lot_command.specs.declared.transaction.Narration.{Narration}
use Rattle.lot_command.specs.declared.transaction.Posting.{Posting}
use Rattle.lot_command.specs.declared.transaction.Transaction.{Transaction}

-- at most so many commodities
pub record AreCurrencies (currencies : List (List ℕ)) : Type 0 where
  pub names : AllByRecursion (IsName is_commodity) currencies
  pub few : length currencies ≤ most_currencies

pub record IsOpening (opening : Opening) : Type 0 where
  pub on_day : IsDayNumber opening.day
  pub of_account : IsName is_account opening.account
  pub in_currencies : AreCurrencies opening.currencies

pub record IsClosing (closing : Closing) : Type 0 where
  pub on_day : IsDayNumber closing.day
  pub of_account : IsName is_account closing.account

pub record IsDeclaring (declaring : Declaring) : Type 0 where
  pub on_day : IsDayNumber declaring.day
  pub of_commodity : IsName is_commodity declaring.commodity

pub record IsQuoting (quoting : Quoting) : Type 0 where
  pub on_day : IsDayNumber quoting.day
  pub of_base : IsName is_commodity quoting.base
  pub at_rate : IsRate quoting.rate
  pub in_quote : IsName is_commodity quoting.quote

-- units that aren't below zero
pub record IsTotal (total : ℤ) : Type 0 where
  pub units : IsUnits total
  pub not_negative : pos 0 ≤ℤ total

pub record IsSpec (spec : CostSpec) : Type 0 where
  pub at_rate : IfSome spec.number IsRate
  pub in_currency : IfSome spec.currency (IsName is_commodity)
  pub on_day : IfSome spec.day IsDayNumber
  pub of_label : IfSome spec.label (IsName is_label)

-- a whole cost has a total in the place of a number
abbrev pub IsCost : Cost → Type 0
IsCost (Costs.Each spec) = IsSpec spec
IsCost (Costs.Whole whole) = IsTotal whole.0 × IsSpec whole.1 × (whole.1.number ≡ None)

abbrev pub IsPrice : Price → Type 0
IsPrice (Prices.Each price) = IsRate price.rate × IsName is_commodity price.currency
IsPrice (Prices.Whole price) = IsTotal price.0 × IsName is_commodity price.1

pub record IsAmount (amount : Amount) : Type 0 where
  pub of_units : IsUnits amount.units
  pub in_commodity : IsName is_commodity amount.commodity
  pub at_cost : IfSome amount.cost IsCost
  pub at_price : IfSome amount.price IsPrice

pub record IsPosting (posting : Posting) : Type 0 where
  pub of_account : IsName is_account posting.account
  pub of_amount : IfSome posting.amount IsAmount

pub record IsNarration (narration : Narration) : Type 0 where
  pub of_payee : IfSome narration.payee (IsName is_note)
  pub of_text : IsName is_note narration.text

pub record IsTransaction (transaction : Transaction) : Type 0 where
  pub on_day : IsDayNumber transaction.day
  pub of_narration : IfSome transaction.narration IsNarration
  pub of_postings : AllByRecursion IsPosting transaction.postings

abbrev pub IsSayable : Command → Type 0
IsSayable (Commands.Opening opening) = IsOpening opening
IsSayable (Commands.Closing closing) = IsClosing closing
IsSayable (Commands.Declaring declaring) = IsDeclaring declaring
IsSayable (Commands.Quoting quoting) = IsQuoting quoting
IsSayable (Commands.Transaction transaction) = IsTransaction transaction
