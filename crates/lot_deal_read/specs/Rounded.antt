-- The numbers of a row that are rounded as they are read (docs/FORMATS.md, Profiles).
use Rattle.std.specs.Prelude.{◌≡◌, ℕ, ℤ, List, [], ◌∷◌, ◌⊎◌, Option, Some, None, Result, Ok, Err}
use Rattle.std.specs.List.{slice_get}
use Rattle.lot_profile.specs.declared.basis.Rewards.{Rewards}
use Rattle.lot_profile.specs.declared.basis.Rewards.TheVariants as rewards
use Rattle.lot_profile.specs.declared.kind.Kind.{Kind}
use Rattle.lot_profile.specs.declared.kind.Kind.TheVariants as kind
use Rattle.lot_profile.specs.declared.profile.Profile.{Profile}
use Rattle.lot_profile.specs.declared.role.Role.{Role}
use Rattle.lot_profile.specs.declared.role.Role.TheVariants as role
use Rattle.lot_roles.specs.Numbers.{amount_of, rounded_in}
use Rattle.lot_roles.specs.Reading.{Read}
use Rattle.lot_roles.specs.declared.fault.RowFault.{RowFault}
use Rattle.lot_roles.specs.declared.rules.Rules.{Rules}
use Rattle.lot_sheet.specs.Sheet.{SheetRow}
use Rattle.lot_deal_read.specs.Row.{AreRules, HasNoRules}

-- The roles whose amounts a reward uses, of which the row says that amount: none where rewards count as zero; the price where the row
-- says no amount.
abbrev pub reward_roles : Rewards → Read (Option ℤ) → List Role
reward_roles rewards.Zero amount = []
reward_roles rewards.Value (Ok None) = role.Price ∷ []
reward_roles rewards.Value (Ok (Some amount)) = role.Amount ∷ []
reward_roles rewards.Value (Err fault) = role.Amount ∷ []

-- the roles whose amounts and prices a row of a kind uses
abbrev pub amount_roles : Rules → SheetRow → Kind → List Role
amount_roles rules row kind.Buy = role.Amount ∷ role.Price ∷ role.Fee ∷ []
amount_roles rules row kind.Sell = role.Amount ∷ role.Price ∷ role.Fee ∷ []
amount_roles rules row kind.CancelBuy = role.Amount ∷ role.Price ∷ role.Fee ∷ []
amount_roles rules row kind.CancelSell = []
amount_roles rules row kind.Dividend = role.Amount ∷ role.Tax ∷ role.Booked ∷ []
amount_roles rules row kind.Interest = role.Amount ∷ role.Tax ∷ role.Booked ∷ []
amount_roles rules row kind.Tax = role.Amount ∷ []
amount_roles rules row kind.Fee = role.Amount ∷ []
amount_roles rules row kind.Deposit = role.Amount ∷ []
amount_roles rules row kind.Withdrawal = role.Amount ∷ []
amount_roles rules row kind.Exchange = role.Amount ∷ role.Other ∷ role.Fee ∷ []
amount_roles rules row kind.Reward = reward_roles rules.profile.now.basis.rewards (amount_of rules row role.Amount)
amount_roles rules row kind.TransferIn = role.Cost ∷ []
amount_roles rules row kind.Split = []
amount_roles rules row kind.Price = role.Price ∷ []
amount_roles rules row kind.ByHand = []
amount_roles rules row kind.Skip = []

-- how many amounts and prices of a row were rounded to eight decimals as they were read
pub record AreRounded (profile : Profile) (row : SheetRow) (count : ℕ) : Type 0 where
  pub rules : Rules
  pub are : AreRules profile row rules
  pub is : count ≡ rounded_in rules row (amount_roles rules row rules.kind.now.kind)

-- there are no rules by which a row is read, and so no numbers
pub record AreNone (profile : Profile) (row : SheetRow) (count : ℕ) : Type 0 where
  pub fault : RowFault
  pub no_rules : HasNoRules profile row fault (slice_get profile.tables row.table)
  pub none : count ≡ 0

abbrev pub IsRounded : Profile → SheetRow → ℕ → Type 0
IsRounded profile row count = AreRounded profile row count ⊎ AreNone profile row count
