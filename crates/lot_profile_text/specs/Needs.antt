-- What a kind of rows needs of its profile (docs/FORMATS.md, Profiles).
use Rattle.std.specs.Prelude.{Bool, true, false, not, ◌&&◌, ◌||◌, if◌then◌else◌, IsTrue, IfSome, List, [], ◌∷◌, All, find, Option, None, Some}
use Rattle.std.specs.List.{list_all, list_any}
use Rattle.std.specs.Option.{option_or}
use Rattle.lot_base.specs.Text.{same_text}
use Rattle.lot_profile.specs.declared.account.AccountOf.{AccountOf}
use Rattle.lot_profile.specs.declared.account.AccountRole.{AccountRole}
use Rattle.lot_profile.specs.declared.account.AccountRole.TheVariants as account
use Rattle.lot_profile.specs.declared.basis.Basis.{Basis}
use Rattle.lot_profile.specs.declared.basis.CostBasis.{CostBasis}
use Rattle.lot_profile.specs.declared.basis.CostBasis.TheVariants as cost
use Rattle.lot_profile.specs.declared.basis.Rewards.{Rewards}
use Rattle.lot_profile.specs.declared.basis.Rewards.TheVariants as rewards
use Rattle.lot_profile.specs.declared.kind.Kind.{Kind}
use Rattle.lot_profile.specs.declared.kind.Kind.TheVariants as kind
use Rattle.lot_profile.specs.declared.kind.KindRule.{KindRule}
use Rattle.lot_profile.specs.declared.profile.Profile.{Profile}
use Rattle.lot_profile.specs.declared.role.Role.{Role}
use Rattle.lot_profile.specs.declared.role.Role.TheVariants as role
use Rattle.lot_profile.specs.declared.role.Sources.{Sources}
use Rattle.lot_profile.specs.declared.table.Table.{Table}
use Rattle.lot_profile_text.specs.Words.{account_role_word, role_word}

-- ---- What is named.

-- whether two roles are the same: their words are
unfoldable pub is_role : Role → Role → Bool
is_role one other = same_text (role_word one) (role_word other)

unfoldable pub is_account_role : AccountRole → AccountRole → Bool
is_account_role one other = same_text (account_role_word one) (account_role_word other)

-- whether columns name a role
abbrev pub name_role : List Sources → Role → Bool
name_role columns role = list_any (λ sources. is_role sources.role role) columns

-- whether accounts name one for something
abbrev pub name_account : List AccountOf → AccountRole → Bool
name_account accounts role = list_any (λ account. is_account_role account.role role) accounts

-- whether a kind, or its table, names a role
unfoldable pub has_role : Table → KindRule → Role → Bool
has_role table rule role = name_role rule.columns role || name_role table.columns role

-- whether a kind, or the profile, which has these accounts, names an account
unfoldable pub has_account : List AccountOf → KindRule → AccountRole → Bool
has_account accounts rule role = name_account rule.accounts role || name_account accounts role

-- ---- Roles.

-- units against something
abbrev pub unit_roles : List Role
unit_roles = role.Day ∷ role.Symbol ∷ role.Units ∷ role.Currency ∷ []

-- cash alone
abbrev pub cash_roles : List Role
cash_roles = role.Day ∷ role.Amount ∷ role.Currency ∷ []

-- the roles that a kind needs in any profile
abbrev pub roles_needed : Kind → List Role
roles_needed kind.Buy = unit_roles
roles_needed kind.Sell = unit_roles
roles_needed kind.CancelBuy = unit_roles
roles_needed kind.CancelSell = unit_roles
roles_needed kind.Dividend = cash_roles
roles_needed kind.Interest = cash_roles
roles_needed kind.Tax = cash_roles
roles_needed kind.Fee = cash_roles
roles_needed kind.Deposit = cash_roles
roles_needed kind.Withdrawal = cash_roles
roles_needed kind.Exchange = cash_roles
roles_needed kind.Reward = unit_roles
roles_needed kind.TransferIn = role.Day ∷ role.Symbol ∷ role.Units ∷ role.Currency ∷ role.Cost ∷ role.CostDay ∷ []
roles_needed kind.Split = role.Day ∷ role.Symbol ∷ []
roles_needed kind.Price = role.Day ∷ role.Symbol ∷ role.Price ∷ []
roles_needed kind.ByHand = role.Day ∷ []
roles_needed kind.Skip = []

abbrev pub is_by_price : CostBasis → Bool
is_by_price cost.Amount = false
is_by_price cost.Price = true

abbrev pub is_by_value : Rewards → Bool
is_by_value rewards.Value = true
is_by_value rewards.Zero = false

-- a trade needs the price where that is its cost, or where there is no amount
abbrev pub trade_role : Basis → Table → KindRule → Option Role
trade_role basis table rule =
    if is_by_price basis.cost || not (has_role table rule role.Amount) then Some role.Price else None

-- a reward needs the price where its value counts and there is no amount
abbrev pub reward_role : Basis → Table → KindRule → Option Role
reward_role basis table rule =
    if is_by_value basis.rewards && not (has_role table rule role.Amount) then Some role.Price else None

-- one role with another, and one without another
abbrev pub role_with : Table → KindRule → Role → Role → Option Role
role_with table rule other needed = if has_role table rule other then Some needed else None

abbrev pub role_without : Table → KindRule → Role → Role → Option Role
role_without table rule other needed = if has_role table rule other then None else Some needed

-- the role that a kind needs beside these, by what its profile says
abbrev pub role_beside_for : Kind → Basis → Table → KindRule → Option Role
role_beside_for kind.Buy basis table rule = trade_role basis table rule
role_beside_for kind.Sell basis table rule = trade_role basis table rule
role_beside_for kind.CancelBuy basis table rule = trade_role basis table rule
role_beside_for kind.CancelSell basis table rule = trade_role basis table rule
role_beside_for kind.Dividend basis table rule = role_with table rule role.Booked role.BookedCurrency
role_beside_for kind.Interest basis table rule = role_with table rule role.Booked role.BookedCurrency
role_beside_for kind.Exchange basis table rule = role_with table rule role.Other role.OtherCurrency
role_beside_for kind.Reward basis table rule = reward_role basis table rule
role_beside_for kind.Split basis table rule = role_without table rule role.Ratio role.Units
role_beside_for kind.Price basis table rule = role_without table rule role.PriceCurrency role.Currency
role_beside_for _ basis table rule = None

unfoldable pub role_beside : Basis → Table → KindRule → Option Role
role_beside basis table rule = role_beside_for rule.kind basis table rule

abbrev pub unless_role : Table → KindRule → Option Role → Option Role
unless_role table rule None = None
unless_role table rule (Some role) = if has_role table rule role then None else Some role

-- the first role that a kind needs and that neither it nor its table names
unfoldable pub missing_role : Basis → Table → KindRule → Option Role
missing_role basis table rule =
    option_or (find (λ role. not (has_role table rule role)) (roles_needed rule.kind)) (unless_role table rule (role_beside basis table rule))

-- ---- Accounts.

-- the accounts that a kind needs in any profile
abbrev pub accounts_needed : Kind → List AccountRole
accounts_needed kind.Buy = account.Invest ∷ account.Cash ∷ account.Rounding ∷ []
accounts_needed kind.Sell = account.Invest ∷ account.Cash ∷ account.Rounding ∷ account.Gains ∷ []
accounts_needed kind.CancelBuy = account.Invest ∷ account.Cash ∷ account.Rounding ∷ []
accounts_needed kind.CancelSell = account.Invest ∷ account.Cash ∷ account.Rounding ∷ account.Gains ∷ []
accounts_needed kind.Dividend = account.Cash ∷ account.Dividends ∷ []
accounts_needed kind.Interest = account.Cash ∷ account.Interest ∷ []
accounts_needed kind.Tax = account.Cash ∷ account.Tax ∷ []
accounts_needed kind.Fee = account.Cash ∷ account.Fees ∷ []
accounts_needed kind.Deposit = account.Cash ∷ account.Transfers ∷ []
accounts_needed kind.Withdrawal = account.Cash ∷ account.Transfers ∷ []
accounts_needed kind.Exchange = account.Cash ∷ account.Transfers ∷ []
accounts_needed kind.Reward = account.Invest ∷ account.Rounding ∷ []
accounts_needed kind.TransferIn = account.Invest ∷ account.Transfers ∷ account.Rounding ∷ []
accounts_needed kind.Split = account.Invest ∷ account.Rounding ∷ []
accounts_needed kind.Price = []
accounts_needed kind.ByHand = []
accounts_needed kind.Skip = []

-- the fee of a trade has an account where the price is the cost, or where it may be in another currency
abbrev pub trade_account : Basis → Table → KindRule → Option AccountRole
trade_account basis table rule =
    if has_role table rule role.Fee && (is_by_price basis.cost || has_role table rule role.FeeCurrency)
    then Some account.Fees else None

abbrev pub account_with : Table → KindRule → Role → AccountRole → Option AccountRole
account_with table rule other needed = if has_role table rule other then Some needed else None

-- the account that a kind needs beside these, by what its profile says
abbrev pub account_beside_for : Kind → Basis → Table → KindRule → Option AccountRole
account_beside_for kind.Buy basis table rule = trade_account basis table rule
account_beside_for kind.Sell basis table rule = trade_account basis table rule
account_beside_for kind.CancelBuy basis table rule = trade_account basis table rule
account_beside_for kind.CancelSell basis table rule = trade_account basis table rule
account_beside_for kind.Dividend basis table rule = account_with table rule role.Tax account.Tax
account_beside_for kind.Interest basis table rule = account_with table rule role.Tax account.Tax
account_beside_for kind.Exchange basis table rule = account_with table rule role.Fee account.Fees
account_beside_for kind.Reward basis table rule = if is_by_value basis.rewards then Some account.Rewards else None
account_beside_for _ basis table rule = None

unfoldable pub account_beside : Basis → Table → KindRule → Option AccountRole
account_beside basis table rule = account_beside_for rule.kind basis table rule

abbrev pub unless_account : List AccountOf → KindRule → Option AccountRole → Option AccountRole
unless_account accounts rule None = None
unless_account accounts rule (Some role) = if has_account accounts rule role then None else Some role

-- the first account that a kind needs and that neither it nor the profile names
unfoldable pub missing_account : Profile → Table → KindRule → Option AccountRole
missing_account profile table rule =
    option_or (find (λ role. not (has_account profile.accounts rule role)) (accounts_needed rule.kind))
    (unless_account profile.accounts rule (account_beside profile.basis table rule))

-- ---- What callers may count on.

-- a kind has the roles and accounts that it needs
pub record HasNeeds (profile : Profile) (table : Table) (rule : KindRule) : Type 0 where
  pub roles : IsTrue (list_all (has_role table rule) (roles_needed rule.kind))
  pub role_beside : IfSome (role_beside profile.basis table rule) (λ role. IsTrue (has_role table rule role))
  pub accounts : IsTrue (list_all (has_account profile.accounts rule) (accounts_needed rule.kind))
  pub account_beside : IfSome (account_beside profile.basis table rule) (λ role. IsTrue (has_account profile.accounts rule role))

-- each kind of each table has
abbrev pub AllHaveNeeds : Profile → Type 0
AllHaveNeeds profile = All (λ table. All (HasNeeds profile table) table.kinds) profile.tables
